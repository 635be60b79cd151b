-- Two readings of one input.
use Rattle.std.proofs.Common.{◌≡◌, ◌⊎◌, inl, inr, ℕ, true, List, [], ◌∷◌, ◌++◌, Option, Some, None, refl, sym, ap, subst, ◌∙◌}
use Rattle.std.specs.Prelude.{option_and_then}
use Rattle.std.specs.List.{AllByRecursion}
use Rattle.std.proofs.lemmas.Bool.{false≢true}
use Rattle.std.proofs.lemmas.List.{append-nil}
use Rattle.heesch_text.specs.declared.line.Line.{Line}
use Rattle.heesch_text.specs.Lines.{words_of, text_of}
use Rattle.heesch_line.specs.Forms.{IsLine}
use Rattle.heesch_grammar.proofs.Heading.{bind_some}
use Rattle.heesch_reader.specs.declared.progress.Progress.{Progress}
use Rattle.heesch_reader.specs.declared.progress.Progress.TheVariants as stages
use Rattle.heesch_reader.specs.Progress.{Lead, next, walk, may_end}
use Rattle.heesch_reader.specs.Faults.{begins_next}
use Rattle.heesch_reader.specs.Feeding.{BeginEntry, IsInside}
use Rattle.heesch_reader.proofs.FirstWords.{begins_next_cut, inside_begins}
use Rattle.heesch_reader.proofs.SameLines.{along, line_front}
use Rattle.heesch_reader.proofs.Walking.{walk_append}

-- ---- where lines lead

same_some : {A : Type 0} (x : Option A) (a b : A) → x ≡ Some a → x ≡ Some b → a ≡ b
same_some x a b e f = let t = sym e ∙ f in cc

some_none : {A : Type 0} (x : Option A) (a : A) → x ≡ Some a → x ≡ None → ⊥
some_none x a e f = let bad = sym e ∙ f in absurd cc

-- a line behind others may stand where they lead
stands_next : (p r q : Progress) (ls more : List Line) (line : Line) → walk p ls ≡ Some r → walk p (ls ++ line ∷ more) ≡ Some q → next r line ≡ None → ⊥
stands_next p r q ls more line e f none =
    let here : walk r (line ∷ more) ≡ Some q = ap (λ (o : Option Progress). option_and_then (λ x. walk x (line ∷ more)) o) (sym e) ∙ sym (walk_append p ls (line ∷ more)) ∙ f in
    let b = bind_some (next r line) (λ x. walk x more) q here in
    some_none (next r line) b.0 b.1 none

-- ---- a reading that stops

-- the bytes are the text of lines that may stand, and behind them stands none
pub record Cut (bytes : List ℕ) (ls : List Line) (left : List ℕ) (reached : Progress) : Type 0 where
  pub text : bytes ≡ text_of ls ++ left
  pub lead : Lead stages.Start ls reached
  pub stops : (line : Line) (back : List ℕ) → IsLine line → left ≡ words_of line ++ 10 ∷ back → next reached line ≡ None

-- lines that may stand don't go on beyond a cut
pub record WithinCut (ls ms : List Line) (a left : List ℕ) : Type 0 where
  pub more : List Line
  pub lines_are : ms ≡ ls ++ more
  pub bytes : a ≡ text_of more ++ left

pub within_cut : (bytes : List ℕ) (ls ms : List Line) (a left : List ℕ) (q reached : Progress) → Cut bytes ms left reached → Lead stages.Start ls q → bytes ≡ text_of ls ++ a → WithinCut ls ms a left
within_cut bytes ls ms a left q reached c lead e = elim (along ls ms a left lead.forms c.lead.forms (sym e ∙ c.text)) [
  | inl r ↦ record { more = r.more; lines_are = r.lines; bytes = r.bytes }
  | inr r ↦ beyond r.more r.lines r.bytes r.forms
]
  where
    beyond : (more : List Line) → ls ≡ ms ++ more → left ≡ text_of more ++ a → AllByRecursion IsLine more → WithinCut ls ms a left
    beyond [] lines bytes forms = record { more = []; lines_are = sym (append-nil ms) ∙ sym lines ∙ sym (append-nil ls); bytes = sym bytes }
    beyond (line ∷ more) lines bytes forms =
        absurd (stands_next stages.Start reached q ms more line c.lead.reached (subst (λ (x : List Line). walk stages.Start x ≡ Some q) lines lead.reached)
        (c.stops line (text_of more ++ a) forms.0 (bytes ∙ line_front line more a)))

-- two cuts have the same lines
pub same_cut : (bytes : List ℕ) (ls ms : List Line) (a b : List ℕ) (q r : Progress) → Cut bytes ls a q → Cut bytes ms b r → (ls ≡ ms) × (a ≡ b)
same_cut bytes ls ms a b q r c d = both w.more w.lines_are w.bytes
  where
    w : WithinCut ls ms a b
    w = within_cut bytes ls ms a b q r d c.lead c.text

    both : (more : List Line) → ms ≡ ls ++ more → a ≡ text_of more ++ b → (ls ≡ ms) × (a ≡ b)
    both [] lines bytes = (sym (lines ∙ append-nil ls), bytes)
    both (line ∷ more) lines bytes =
        absurd (stands_next stages.Start q r ls more line c.lead.reached (subst (λ (x : List Line). walk stages.Start x ≡ Some r) lines d.lead.reached)
        (c.stops line (text_of more ++ b) (form ls (line ∷ more) (subst (λ (x : List Line). AllByRecursion IsLine x) lines d.lead.forms)).0 (bytes ∙ line_front line more b)))
      where
        form : (xs ys : List Line) → AllByRecursion IsLine (xs ++ ys) → AllByRecursion IsLine ys
        form [] ys h = h
        form (x ∷ xs) ys h = form xs ys h.1

-- ---- a whole entry before a cut

-- of two splits of one list, the second is the shorter in front, or reaches into the back of the first
splits : (xs hs ys ms : List Line) → xs ++ hs ≡ ys ++ ms → ((over : List Line) × (xs ≡ ys ++ over)) ⊎ ((line : Line) × (over : List Line) × (ys ≡ xs ++ line ∷ over) × (hs ≡ line ∷ (over ++ ms)))
splits xs hs [] ms e = inl (xs, refl)
splits [] hs (y ∷ ys) ms e = inr (y, ys, refl, e)
splits (x ∷ xs) hs (y ∷ ys) ms e =
    let t : x ≡ y = cc in
    let rest : xs ++ hs ≡ ys ++ ms = cc in
    elim (splits xs hs ys ms rest) [
      | inl f ↦ inl (f.0, ap (λ (u : Line). u ∷ xs) t ∙ ap (λ (u : List Line). y ∷ u) f.1)
      | inr f ↦ inr (f.0, f.1, ap (λ (u : Line). u ∷ ys) (sym t) ∙ ap (λ (u : List Line). x ∷ u) f.2, f.3)
    ]

inside_right : (xs ys : List Line) → AllByRecursion IsInside (xs ++ ys) → AllByRecursion IsInside ys
inside_right [] ys h = h
inside_right (x ∷ xs) ys h = inside_right xs ys h.1

some_bytes : (words more : List ℕ) → words ++ 10 ∷ more ≡ [] → ⊥
some_bytes [] more e = absurd cc
some_bytes (b ∷ words) more e = absurd cc

-- lines behind which an entry may end and the next one or the end begins, or nothing stands, stand among those of the items before a cut, where no whole entry is held back there
pub before_cut : (bytes : List ℕ) (ls front held : List Line) (a left : List ℕ) (q reached : Progress) → Cut bytes (front ++ held) left reached → BeginEntry held
    → (may_end reached ≡ true → (begins_next left ≡ true) ⊎ ((left ≡ []) × (a ≡ [])) → held ≡ [])
    → Lead stages.Start ls q → may_end q ≡ true → bytes ≡ text_of ls ++ a → (begins_next a ≡ true) ⊎ (a ≡ []) → (over : List Line) × (front ≡ ls ++ over)
before_cut bytes ls front held a left q reached c one prompt lead whole e shown = by_more w.more w.lines_are w.bytes
  where
    w : WithinCut ls (front ++ held) a left
    w = within_cut bytes ls (front ++ held) a left q reached c lead e

    -- the lines reach into the entry held
    into : (line : Line) (over more : List Line) → ls ≡ front ++ line ∷ over → held ≡ line ∷ (over ++ more) → a ≡ text_of more ++ left → ⊥
    into line over [] is held_is behind =
        let all : ls ≡ front ++ held = is ∙ ap (λ (x : List Line). front ++ x) (ap (λ (x : List Line). line ∷ x) (sym (append-nil over)) ∙ sym held_is) in
        let same : q ≡ reached = same_some (walk stages.Start ls) q reached lead.reached (ap (walk stages.Start) all ∙ c.lead.reached) in
        let seen : (begins_next left ≡ true) ⊎ ((left ≡ []) × (a ≡ [])) = elim shown [
          | inl begins ↦ inl (subst (λ (x : List ℕ). begins_next x ≡ true) behind begins)
          | inr none ↦ inr (sym behind ∙ none, none)
        ] in
        let empty = sym held_is ∙ prompt (ap may_end (sym same) ∙ whole) seen in
        absurd cc
    into line over (next_line ∷ more) is held_is behind =
        let begun : BeginEntry (line ∷ (over ++ next_line ∷ more)) = subst BeginEntry held_is one in
        let inside = inside_right over (next_line ∷ more) begun.1 in
        let front_is : a ≡ words_of next_line ++ 10 ∷ (text_of more ++ left) = behind ∙ line_front next_line more left in
        elim shown [
          | inl begins ↦ false≢true (sym (ap begins_next front_is ∙ begins_next_cut (words_of next_line) (text_of more ++ left) ∙ inside_begins next_line inside.0) ∙ begins)
          | inr none ↦ some_bytes (words_of next_line) (text_of more ++ left) (sym front_is ∙ none)
        ]

    by_more : (more : List Line) → front ++ held ≡ ls ++ more → a ≡ text_of more ++ left → (over : List Line) × (front ≡ ls ++ over)
    by_more more are behind = elim (splits front held ls more are) [
      | inl f ↦ f
      | inr f ↦ absurd (into f.0 f.1 more f.2 f.3 behind)
    ]
