-- A text has one first fault at most as a model text over the variables.
use Rattle.std.proofs.Common.{◌≡◌, ◌≢◌, ◌∙◌, ◌⊎◌, ℕ, ◌+◌, ◌<◌, List, [], ◌∷◌, ◌++◌, length, refl, sym, ap, subst, arith, append_assoc, inl, inr}
use Rattle.std.specs.List.{AllByRecursion}
use Rattle.heesch_exchange.specs.declared.model_text.ModelStop.TheVariants.{NotText, Stranger}
use Rattle.heesch_exchange.specs.Models.{ended, text_of, IsModelText}
use Rattle.heesch_exchange.specs.Stops.{GoesOn, MayGoOn, IsReached, Stops}
use Rattle.heesch_exchange.proofs.Bytes.{cut_same}
use Rattle.heesch_line.specs.Forms.{HasNoNewline}
use Rattle.heesch_exchange.specs.Answers.{IsModelFault}

-- ---- the lines of one text

abbrev AreWhole : List (List ℕ) → Type 0
AreWhole lines = AllByRecursion HasNoNewline lines

-- a line of two texts: the same line, and the same text behind it
cut_lines : (a b r s : List ℕ) → HasNoNewline a → HasNoNewline b → ended a ++ r ≡ ended b ++ s → (a ≡ b) × (r ≡ s)
cut_lines a b r s fits fit e =
    let both : a ++ 10 ∷ r ≡ b ++ 10 ∷ s = sym (append_assoc a (10 ∷ []) r) ∙ e ∙ append_assoc b (10 ∷ []) s in
    let cut = cut_same 10 a (10 ∷ r) b (10 ∷ s) fits fit refl refl both in
    let tails : 10 ∷ r ≡ 10 ∷ s = cut.1 in
    (cut.0, cc)

-- what has no newline begins with no line that ends
not_ended : (rest line more : List ℕ) → HasNoNewline rest → rest ≢ ended line ++ more
not_ended [] [] more free e = cc
not_ended [] (b ∷ line) more free e = cc
not_ended (x ∷ rest) [] more free e =
    let first : x ≡ 10 = cc in
    free.0 first
not_ended (x ∷ rest) (y ∷ line) more free e =
    let others : rest ≡ ended line ++ more = cc in
    not_ended rest line more free.1 others

-- one more line of a text, behind the lines that were cut
record HasNext (lines whole : List (List ℕ)) (rest behind : List ℕ) : Type 0 where
  line : List ℕ
  back : List (List ℕ)
  whole_line : HasNoNewline line
  whole_is : whole ≡ lines ++ line ∷ back
  rest_is : rest ≡ ended line ++ (text_of back ++ behind)

-- of two cuts of one text, that of more lines has a next one behind the other
next_line : (lines whole : List (List ℕ)) (rest behind : List ℕ) → AreWhole lines → AreWhole whole → text_of lines ++ rest ≡ text_of whole ++ behind → length lines < length whole → HasNext lines whole rest behind
next_line [] [] rest behind fits fit e less = absurd (omega (arith, less))
next_line [] (b ∷ whole) rest behind fits fit e less = record {
  line = b;
  back = whole;
  whole_line = fit.0;
  whole_is = refl;
  rest_is = e ∙ append_assoc (ended b) (text_of whole) behind;
}
next_line (a ∷ lines) [] rest behind fits fit e less = absurd (omega (arith, less))
next_line (a ∷ lines) (b ∷ whole) rest behind fits fit e less =
    let cut = cut_lines a b (text_of lines ++ rest) (text_of whole ++ behind) fits.0 fit.0 (sym (append_assoc (ended a) (text_of lines) rest) ∙ e ∙ append_assoc (ended b) (text_of whole) behind) in
    let next = next_line lines whole rest behind fits.1 fit.1 cut.1 (omega (arith, less)) in
    let same : a ≡ b = cut.0 in
    let others : whole ≡ lines ++ next.line ∷ next.back = next.whole_is in
    record { line = next.line; back = next.back; whole_line = next.whole_line; whole_is = cc; rest_is = next.rest_is }

-- two cuts of one text with as many lines are the same
same_lines : (lines whole : List (List ℕ)) (rest behind : List ℕ) → AreWhole lines → AreWhole whole → text_of lines ++ rest ≡ text_of whole ++ behind → length lines ≡ length whole → (lines ≡ whole) × (rest ≡ behind)
same_lines [] [] rest behind fits fit e long = (refl, e)
same_lines [] (b ∷ whole) rest behind fits fit e long = absurd (omega (arith, long))
same_lines (a ∷ lines) [] rest behind fits fit e long = absurd (omega (arith, long))
same_lines (a ∷ lines) (b ∷ whole) rest behind fits fit e long =
    let cut = cut_lines a b (text_of lines ++ rest) (text_of whole ++ behind) fits.0 fit.0 (sym (append_assoc (ended a) (text_of lines) rest) ∙ e ∙ append_assoc (ended b) (text_of whole) behind) in
    let others = same_lines lines whole rest behind fits.1 fit.1 cut.1 (omega (arith, long)) in
    let same : a ≡ b = cut.0 in
    let tails : lines ≡ whole = others.0 in
    (cc, others.1)

-- ---- a line at fault

-- what begins so may go on where a longer beginning does
shorter : (vars : ℕ) (front more : List ℕ) → GoesOn vars (front ++ more) → GoesOn vars front
shorter vars front more g = record {
  more = more ++ g.more;
  literals = g.literals;
  text_is = subst (λ (t : List ℕ). IsModelText t g.literals) (append_assoc front more g.more) g.text_is;
  over = g.over;
}

-- the line of this number is reached, and it doesn't end, or no text over the variables goes on with it
record IsAtFault (vars : ℕ) (text : List ℕ) (number : ℕ) : Type 0 where
  front : List ℕ
  rest : List ℕ
  reached : IsReached vars text number front rest
  stops : HasNoNewline rest ⊎ ((line : List ℕ) × (more : List ℕ) × HasNoNewline line × (rest ≡ ended line ++ more) × (GoesOn vars (front ++ ended line) → ⊥))

at_fault : (vars : ℕ) (text : List ℕ) (number : ℕ) → Stops vars text (NotText number) → IsAtFault vars text number
at_fault vars text number (inl e) = record { front = e.front; rest = e.rest; reached = e.reached; stops = inl e.unended }
at_fault vars text number (inr o) =
    let h = o.has_line in
    let none : GoesOn vars (o.front ++ ended o.line) → ⊥ = λ g. o.other (record { more = g.more; literals = g.literals; text_is = g.text_is }) in
    record { front = o.front; rest = ended o.line ++ h.rest; reached = h.reached; stops = inr (o.line, h.rest, h.whole, refl, none) }

stranger_at_fault : (vars : ℕ) (text : List ℕ) (number : ℕ) → Stops vars text (Stranger number) → IsAtFault vars text number
stranger_at_fault vars text number s =
    let h = s.has_line in
    record { front = s.front; rest = ended s.line ++ h.rest; reached = h.reached; stops = inr (s.line, h.rest, h.whole, refl, s.stranger) }

-- behind a line at fault none is reached
not_behind : (vars : ℕ) (text : List ℕ) (number other : ℕ) → IsAtFault vars text number → IsAtFault vars text other → number < other → ⊥
not_behind vars text number other f h less =
    let r = f.reached in
    let s = h.reached in
    let same : text_of r.lines ++ f.rest ≡ text_of s.lines ++ h.rest =
    ap (λ (t : List ℕ). t ++ f.rest) (sym r.front_is) ∙ sym r.text_is ∙ s.text_is ∙ ap (λ (t : List ℕ). t ++ h.rest) s.front_is in
    let fewer : length r.lines < length s.lines = omega (arith, r.number_is, s.number_is, less) in
    let next = next_line r.lines s.lines f.rest h.rest r.whole s.whole same fewer in
    by next f.stops
  where
    by : HasNext f.reached.lines h.reached.lines f.rest h.rest
        → HasNoNewline f.rest ⊎ ((line : List ℕ) × (more : List ℕ) × HasNoNewline line × (f.rest ≡ ended line ++ more) × (GoesOn vars (f.front ++ ended line) → ⊥)) → ⊥
    by next (inl unended) = not_ended f.rest next.line (text_of next.back ++ h.rest) unended next.rest_is
    by next (inr (line, more, free, rest_is, none)) =
        let cut = cut_lines line next.line more (text_of next.back ++ h.rest) free next.whole_line (sym rest_is ∙ next.rest_is) in
        let text_next : h.front ≡ (f.front ++ ended line) ++ text_of next.back =
        h.reached.front_is ∙ ap text_of next.whole_is ∙ of_lines f.reached.lines next.line next.back
        ∙ ap (λ (t : List ℕ). t ++ (ended next.line ++ text_of next.back)) (sym f.reached.front_is)
        ∙ ap (λ (l : List ℕ). f.front ++ (ended l ++ text_of next.back)) (sym cut.0) ∙ sym (append_assoc f.front (ended line) (text_of next.back)) in
        none (shorter vars (f.front ++ ended line) (text_of next.back) (subst (GoesOn vars) text_next h.reached.goes_on))
      where
        of_lines : (lines : List (List ℕ)) (line : List ℕ) (back : List (List ℕ)) → text_of (lines ++ line ∷ back) ≡ text_of lines ++ (ended line ++ text_of back)
        of_lines [] line back = refl
        of_lines (a ∷ lines) line back = ap (λ (t : List ℕ). ended a ++ t) (of_lines lines line back) ∙ sym (append_assoc (ended a) (text_of lines) (ended line ++ text_of back))

one_line_at_fault : (vars : ℕ) (text : List ℕ) (number other : ℕ) → IsAtFault vars text number → IsAtFault vars text other → number ≡ other
one_line_at_fault vars text number other f h = tight number other (not_behind vars text number other f h) (not_behind vars text other number h f)
  where
    tight : (n m : ℕ) → (n < m → ⊥) → (m < n → ⊥) → n ≡ m
    tight n m below above = grind (arith, below, above)

-- a line that is in form is no other line
not_both : (vars : ℕ) (text : List ℕ) (number : ℕ) → Stops vars text (NotText number) → Stops vars text (Stranger number) → ⊥
not_both vars text number n s = by n
  where
    same_cut : (front rest : List ℕ) → IsReached vars text number front rest → (front ≡ s.front) × (rest ≡ ended s.line ++ s.has_line.rest)
    same_cut front rest r =
        let q = s.has_line.reached in
        let same : text_of r.lines ++ rest ≡ text_of q.lines ++ (ended s.line ++ s.has_line.rest) =
        ap (λ (t : List ℕ). t ++ rest) (sym r.front_is) ∙ sym r.text_is ∙ q.text_is ∙ ap (λ (t : List ℕ). t ++ (ended s.line ++ s.has_line.rest)) q.front_is in
        let cut = same_lines r.lines q.lines rest (ended s.line ++ s.has_line.rest) r.whole q.whole same (omega (arith, r.number_is, q.number_is)) in
        (r.front_is ∙ ap text_of cut.0 ∙ sym q.front_is, cut.1)

    by : Stops vars text (NotText number) → ⊥
    by (inl e) = not_ended e.rest s.line s.has_line.rest e.unended (same_cut e.front e.rest e.reached).1
    by (inr o) =
        let h = o.has_line in
        let cut = same_cut o.front (ended o.line ++ h.rest) h.reached in
        let lines = cut_lines o.line s.line h.rest s.has_line.rest h.whole s.has_line.whole cut.1 in
        o.other (subst (λ (t : List ℕ). MayGoOn t) (ap (λ (t : List ℕ). t ++ ended s.line) (sym cut.0) ∙ ap (λ (l : List ℕ). o.front ++ ended l) (sym lines.0)) s.in_form)

-- ---- a model text has one fault

pub one_model_fault : (count : ℕ) (model : List ℕ) (line number at other : ℕ) → IsModelFault count model line number → IsModelFault count model at other → (line ≡ at) × (number ≡ other)
one_model_fault count model line number at other (inl (a, s, at_is, number_is)) (inl (b, t, other_at, other_is)) =
    let same : a ≡ b = one_line_at_fault count model a b (at_fault count model a s) (at_fault count model b t) in
    (at_is ∙ ap (λ (n : ℕ). n + 1) same ∙ sym other_at, number_is ∙ sym other_is)
one_model_fault count model line number at other (inl (a, s, at_is, number_is)) (inr (b, t, other_at, other_is)) =
    let same : a ≡ b = one_line_at_fault count model a b (at_fault count model a s) (stranger_at_fault count model b t) in
    absurd (not_both count model b (subst (λ (n : ℕ). Stops count model (NotText n)) same s) t)
one_model_fault count model line number at other (inr (a, s, at_is, number_is)) (inl (b, t, other_at, other_is)) =
    let same : a ≡ b = one_line_at_fault count model a b (stranger_at_fault count model a s) (at_fault count model b t) in
    absurd (not_both count model a (subst (λ (n : ℕ). Stops count model (NotText n)) (sym same) t) s)
one_model_fault count model line number at other (inr (a, s, at_is, number_is)) (inr (b, t, other_at, other_is)) =
    let same : a ≡ b = one_line_at_fault count model a b (stranger_at_fault count model a s) (stranger_at_fault count model b t) in
    (at_is ∙ ap (λ (n : ℕ). n + 1) same ∙ sym other_at, number_is ∙ sym other_is)
