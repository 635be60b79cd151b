-- Lines that may all stand, where the text may end behind them, have no fault; and a text has one fault at most.
use Rattle.std.proofs.Common.{◌≡◌, inl, inr, ℕ, ◌+◌, ◌<◌, ◌≤◌, List, [], ◌∷◌, ◌++◌, length, None, Ok, Err, length-append, append-nil, refl, sym, ap, subst, ◌∙◌, arith}
use Rattle.std.specs.List.{AllByRecursion}
use Rattle.heesch_line.specs.Forms.{HasNoNewline}
use Rattle.heesch_reader.proofs.SameLines.{one_first_line, no_first_line}
use Rattle.heesch_parts.specs.declared.part_line.PartLine.{PartLine}
use Rattle.heesch_parts.specs.declared.stage.Stage.{Stage}
use Rattle.heesch_parts.specs.PartLines.{part_words, part_text, parts_text, IsPartLine}
use Rattle.heesch_parts.specs.Stages.{start, Step, Walk, end_fault}
use Rattle.heesch_parts.specs.Faults.{IsLineFault, Ended, AtEnd, Beyond, EndFault, IsFaultBehind, HasFault}
use Rattle.heesch_parts.proofs.PartWords.{parts_tell, part_free}
use Rattle.heesch_parts.proofs.SameParts.{part_front, parts_append, GoOn, along}
use Rattle.heesch_parts.proofs.Stepping.{step_once, walk_once, walk_split}

-- bytes without a newline end before the line that they begin does
long_line : (line words xs back : List ℕ) → HasNoNewline line → line ++ xs ≡ words ++ 10 ∷ back → length line ≤ length words
long_line [] words xs back h e = omega arith
long_line (b ∷ line) [] xs back h e = let t : b ≡ 10 = cc in absurd (h.0 t)
long_line (b ∷ line) (c ∷ words) xs back h e = let t : line ++ xs ≡ words ++ 10 ∷ back = cc in omega (arith, long_line line words xs back h.1 t)

-- ---- behind the same lines

line_fault_once : (words : List ℕ) (s : Stage) (n m : ℕ) → IsLineFault words s n → IsLineFault words s m → n ≡ m
line_fault_once words s n m (inl a) (inl b) =
    let same = parts_tell a.line b.line a.form b.form (a.words_are ∙ sym b.words_are) in
    let step : Step s b.line (Err n) = subst (λ (l : PartLine). Step s l (Err n)) same a.fault in
    let err = step_once s b.line (Err n) (Err m) step b.fault in
    cc
line_fault_once words s n m (inl a) (inr none) = absurd (none.0 a.line a.form a.words_are)
line_fault_once words s n m (inr none) (inl b) = absurd (none.0 b.line b.form b.words_are)
line_fault_once words s n m (inr none) (inr too) = none.1 ∙ sym too.1

end_fault_once : (rest : List ℕ) (s : Stage) (n m : ℕ) → EndFault rest s n → EndFault rest s m → n ≡ m
end_fault_once [] s n m a b = let t = sym a ∙ b in cc
end_fault_once (c ∷ rest) s n m a b = a ∙ sym b

not_both : (most : ℕ) (front rest : List ℕ) (s : Stage) (n m : ℕ) → Ended most front rest s n → Beyond most front rest m → ⊥
not_both most front rest s n m a b =
    let le = long_line b.line a.words (b.byte ∷ b.back) a.back b.one_line (sym b.split ∙ a.split) in
    omega (arith, le, a.in_time, b.all_read)

not_beyond : (most : ℕ) (front rest : List ℕ) (s : Stage) (n m : ℕ) → AtEnd most front rest s n → Beyond most front rest m → ⊥
not_beyond most front rest s n m a b =
    let long : length rest ≡ length b.line + length (b.byte ∷ b.back) = ap length b.split ∙ length-append b.line (b.byte ∷ b.back) in
    omega (arith, long, a.in_time, b.all_read)

behind_once : (most : ℕ) (front rest : List ℕ) (s : Stage) (n m : ℕ) → IsFaultBehind most front rest s n → IsFaultBehind most front rest s m → n ≡ m
behind_once most front rest s n m (inl a) (inl b) =
    let same = one_first_line a.words b.words a.back b.back a.one_line b.one_line (sym a.split ∙ b.split) in
    line_fault_once b.words s n m (subst (λ (w : List ℕ). IsLineFault w s n) same.0 a.fault) b.fault
behind_once most front rest s n m (inl a) (inr (inl b)) = absurd (no_first_line a.words a.back rest b.one_line a.split)
behind_once most front rest s n m (inl a) (inr (inr b)) = absurd (not_both most front rest s n m a b)
behind_once most front rest s n m (inr (inl a)) (inl b) = absurd (no_first_line b.words b.back rest a.one_line b.split)
behind_once most front rest s n m (inr (inl a)) (inr (inl b)) = end_fault_once rest s n m a.fault b.fault
behind_once most front rest s n m (inr (inl a)) (inr (inr b)) = absurd (not_beyond most front rest s n m a b)
behind_once most front rest s n m (inr (inr a)) (inl b) = absurd (not_both most front rest s m n b a)
behind_once most front rest s n m (inr (inr a)) (inr (inl b)) = absurd (not_beyond most front rest s m n b a)
behind_once most front rest s n m (inr (inr a)) (inr (inr b)) = a.number_is ∙ sym b.number_is

-- ---- where a line stands

may_stand : (words : List ℕ) (s u : Stage) (line : PartLine) (n : ℕ) → IsPartLine line → part_words line ≡ words → Step s line (Ok u) → IsLineFault words s n → ⊥
may_stand words s u line n form e step (inl a) =
    let same = parts_tell a.line line a.form form (a.words_are ∙ sym e) in
    let fault : Step s line (Err n) = subst (λ (l : PartLine). Step s l (Err n)) same a.fault in
    let bad = step_once s line (Ok u) (Err n) step fault in
    absurd cc
may_stand words s u line n form e step (inr none) = none.0 line form e

-- a line that may stand, and ends within the bytes that are read, is no fault
stands : (most : ℕ) (front rest back : List ℕ) (s u : Stage) (line : PartLine) (n : ℕ) → IsPartLine line → Step s line (Ok u) → rest ≡ part_words line ++ 10 ∷ back → length front + length (part_words line) < most
    → IsFaultBehind most front rest s n → ⊥
stands most front rest back s u line n form step e less (inl a) =
    let same = one_first_line (part_words line) a.words back a.back (part_free line form) a.one_line (sym e ∙ a.split) in
    may_stand a.words s u line n form same.0 step a.fault
stands most front rest back s u line n form step e less (inr (inl a)) = no_first_line (part_words line) back rest a.one_line e
stands most front rest back s u line n form step e less (inr (inr a)) =
    let le = long_line a.line (part_words line) (a.byte ∷ a.back) back a.one_line (sym a.split ∙ e) in
    omega (arith, le, less, a.all_read)

front_long : (front : List PartLine) (line : PartLine) (more : List PartLine) → length (parts_text front) + length (part_words line) < length (parts_text (front ++ line ∷ more))
front_long front line more =
    let whole : length (parts_text (front ++ line ∷ more)) ≡ length (parts_text front) + length (parts_text (line ∷ more)) = ap length (parts_append front (line ∷ more)) ∙ length-append (parts_text front) (parts_text (line ∷ more)) in
    let first = length-append (part_text line) (parts_text more) in
    let words = length-append (part_words line) (10 ∷ []) in
    omega (arith, whole, first, words)

-- ---- lines that go on behind the fault

goes_on : (most : ℕ) (text : List ℕ) (ls more : List PartLine) (final : Stage) (back : List ℕ) (line number : ℕ) → (f : HasFault most text line number) → AllByRecursion IsPartLine more → Walk start ls final
    → ls ≡ f.front ++ more → f.rest ≡ parts_text more ++ back → length (parts_text ls) ≤ most → (more ≡ [] → ⊥) → ⊥
goes_on most text ls [] final back line number f forms walk lines bytes few some = some refl
goes_on most text ls (l ∷ more) final back line number f forms walk lines bytes few some =
    let split = walk_split start final f.front (l ∷ more) (subst (λ (x : List PartLine). Walk start x final) lines walk) in
    let there : split.0 ≡ f.stage = walk_once start f.front split.0 f.stage split.1 f.walk in
    let step : Step f.stage l (Ok split.2.0) = subst (λ (s : Stage). Step s l (Ok split.2.0)) there split.2.1 in
    let long = front_long f.front l more in
    let same : length (parts_text ls) ≡ length (parts_text (f.front ++ l ∷ more)) = ap (λ (x : List PartLine). length (parts_text x)) lines in
    stands most (parts_text f.front) f.rest (parts_text more ++ back) f.stage split.2.0 l number forms.0 step (bytes ∙ part_front l more back) (omega (arith, long, same, few)) f.fault

-- ---- no fault

nil_split : (a b : List ℕ) (x : ℕ) → [] ≡ a ++ x ∷ b → ⊥
nil_split [] b x e = absurd cc
nil_split (c ∷ a) b x e = absurd cc

none_behind : (most : ℕ) (front rest : List ℕ) (s : Stage) (n : ℕ) → rest ≡ [] → end_fault s ≡ None → IsFaultBehind most front rest s n → ⊥
none_behind most front rest s n e none (inl a) = nil_split a.words a.back 10 (sym e ∙ a.split)
none_behind most front rest s n e none (inr (inl a)) =
    let fault : EndFault [] s n = subst (λ (x : List ℕ). EndFault x s n) e a.fault in
    let bad = sym none ∙ fault in
    absurd cc
none_behind most front rest s n e none (inr (inr a)) = nil_split a.line a.back a.byte (sym e ∙ a.split)

nil_parts : (more : List PartLine) (rest : List ℕ) → [] ≡ parts_text more ++ rest → (more ≡ []) × (rest ≡ [])
nil_parts [] rest e = (refl, sym e)
nil_parts (l ∷ more) rest e = absurd (nil_split (part_words l) (parts_text more ++ rest) 10 (e ∙ part_front l more rest))

at_final : (most : ℕ) (text : List ℕ) (ls : List PartLine) (final : Stage) (line number : ℕ) → (f : HasFault most text line number) → Walk start ls final → end_fault final ≡ None → f.front ≡ ls → f.rest ≡ [] → ⊥
at_final most text ls final line number f walk none lines bytes =
    let there : f.stage ≡ final = walk_once start ls f.stage final (subst (λ (x : List PartLine). Walk start x f.stage) lines f.walk) walk in
    none_behind most (parts_text f.front) f.rest f.stage number bytes (ap end_fault there ∙ none) f.fault

pub no_fault : (most : ℕ) (text : List ℕ) (ls : List PartLine) (final : Stage) (line number : ℕ) → text ≡ parts_text ls → AllByRecursion IsPartLine ls → Walk start ls final → end_fault final ≡ None → length text ≤ most → HasFault most text line number → ⊥
no_fault most text ls final line number e forms walk none few f =
    elim (along f.front ls f.rest [] f.forms forms (sym f.split ∙ e ∙ sym (append-nil (parts_text ls)))) [
      | inl r ↦ by_more r.more r.lines r.bytes r.forms
      | inr r ↦
          let nil = nil_parts r.more f.rest r.bytes in
          let lines : f.front ≡ ls = r.lines ∙ ap (λ (x : List PartLine). ls ++ x) nil.0 ∙ append-nil ls in
          at_final most text ls final line number f walk none lines nil.1
    ]
  where
    few_lines : length (parts_text ls) ≤ most
    few_lines = subst (λ (t : List ℕ). length t ≤ most) e few

    by_more : (more : List PartLine) → ls ≡ f.front ++ more → f.rest ≡ parts_text more ++ [] → AllByRecursion IsPartLine more → ⊥
    by_more [] lines bytes g = at_final most text ls final line number f walk none (sym (lines ∙ append-nil f.front)) bytes
    by_more (l ∷ more) lines bytes g = goes_on most text ls (l ∷ more) final [] line number f g walk lines bytes few_lines (λ x. absurd cc)

-- ---- one fault

not_before : (most : ℕ) (text : List ℕ) (line number at other : ℕ) → (f : HasFault most text line number) → (h : HasFault most text at other) → (r : GoOn f.front h.front f.rest h.rest) → (r.more ≡ [] → ⊥) → ⊥
not_before most text line number at other f h r some = goes_on most text h.front r.more h.stage h.rest line number f r.forms h.walk r.lines r.bytes h.in_time some

same_place : (most : ℕ) (text : List ℕ) (line number at other : ℕ) → (f : HasFault most text line number) → (h : HasFault most text at other) → f.front ≡ h.front → f.rest ≡ h.rest → (line ≡ at) × (number ≡ other)
same_place most text line number at other f h lines bytes =
    let there : f.stage ≡ h.stage = walk_once start h.front f.stage h.stage (subst (λ (x : List PartLine). Walk start x f.stage) lines f.walk) h.walk in
    let long = ap length lines in
    let fault : IsFaultBehind most (parts_text h.front) h.rest h.stage number =
    subst (λ (s : Stage). IsFaultBehind most (parts_text h.front) h.rest s number) there
    (subst (λ (b : List ℕ). IsFaultBehind most (parts_text h.front) b f.stage number) bytes (subst (λ (x : List PartLine). IsFaultBehind most (parts_text x) f.rest f.stage number) lines f.fault)) in
    (omega (arith, long, f.line_is, h.line_is), behind_once most (parts_text h.front) h.rest h.stage number other fault h.fault)

pub one_fault : (most : ℕ) (text : List ℕ) (line number at other : ℕ) → HasFault most text line number → HasFault most text at other → (line ≡ at) × (number ≡ other)
one_fault most text line number at other f h =
    elim (along f.front h.front f.rest h.rest f.forms h.forms (sym f.split ∙ h.split)) [
      | inl r ↦ by_more r.more r refl
      | inr r ↦ back_by r.more r refl
    ]
  where
    by_more : (more : List PartLine) → (r : GoOn f.front h.front f.rest h.rest) → r.more ≡ more → (line ≡ at) × (number ≡ other)
    by_more [] r e =
        same_place most text line number at other f h (sym (r.lines ∙ ap (λ (x : List PartLine). f.front ++ x) e ∙ append-nil f.front)) (r.bytes ∙ ap (λ (x : List PartLine). parts_text x ++ h.rest) e)
    by_more (l ∷ more) r e = absurd (not_before most text line number at other f h r (λ none. let bad = sym e ∙ none in absurd cc))

    back_by : (more : List PartLine) → (r : GoOn h.front f.front h.rest f.rest) → r.more ≡ more → (line ≡ at) × (number ≡ other)
    back_by [] r e =
        same_place most text line number at other f h (r.lines ∙ ap (λ (x : List PartLine). h.front ++ x) e ∙ append-nil h.front) (sym (r.bytes ∙ ap (λ (x : List PartLine). parts_text x ++ f.rest) e))
    back_by (l ∷ more) r e = absurd (not_before most text at other line number h f r (λ none. let bad = sym e ∙ none in absurd cc))
