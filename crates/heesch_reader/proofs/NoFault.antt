-- A text whose lines may all stand has no line at fault.
use Rattle.std.proofs.Common.{◌≡◌, ℕ, List, [], ◌∷◌, ◌++◌, Option, Some, None, sym, ap, subst, ◌∙◌}
use Rattle.heesch_text.specs.declared.line.Line.{Line}
use Rattle.heesch_text.specs.Lines.{words_of, text_of}
use Rattle.heesch_line.specs.Forms.{HasNoNewline}
use Rattle.heesch_line.proofs.LinesAgain.{words_tell}
use Rattle.heesch_line.proofs.Newlines.{no_newline}
use Rattle.heesch_grammar.proofs.Heading.{bind_some}
use Rattle.heesch_reader.specs.declared.item.Part.{Part}
use Rattle.heesch_reader.specs.declared.progress.Progress.{Progress}
use Rattle.heesch_reader.specs.Progress.{next, walk, Lead}
use Rattle.heesch_reader.specs.Faults.{FaultsAt}
use Rattle.heesch_reader.proofs.SameLines.{line_front, one_first_line, no_first_line}

some_none : {A : Type 0} (x : Option A) (a : A) → x ≡ Some a → x ≡ None → ⊥
some_none x a e f = let bad = sym e ∙ f in absurd cc

same_some : {A : Type 0} (x : Option A) (a b : A) → x ≡ Some a → x ≡ Some b → a ≡ b
same_some x a b e f = let t = sym e ∙ f in cc

same_start : (p r : Progress) → walk p [] ≡ Some r → p ≡ r
same_start p r e = cc

pub no_fault : (p q r : Progress) (ls front : List Line) (left bytes : List ℕ) (part : Part) → Lead p ls q → HasNoNewline left → Lead p front r → FaultsAt r bytes part → text_of ls ++ left ≡ text_of front ++ bytes → ⊥
no_fault p q r [] [] left bytes part l h f fault e = no_first_line fault.words fault.back left h (e ∙ fault.split)
no_fault p q r [] (a ∷ front) left bytes part l h f fault e = no_first_line (words_of a) (text_of front ++ bytes) left h (e ∙ line_front a front bytes)
no_fault p q r (line ∷ ls) [] left bytes part l h f fault e =
    let s = one_first_line (words_of line) fault.words (text_of ls ++ left) fault.back (no_newline line l.forms.0) fault.one_line (sym (line_front line ls left) ∙ e ∙ fault.split) in
    let b = bind_some (next p line) (λ x. walk x ls) q l.reached in
    some_none (next p line) b.0 b.1 (ap (λ (x : Progress). next x line) (same_start p r f.reached) ∙ fault.may_not line l.forms.0 s.0)
no_fault p q r (line ∷ ls) (a ∷ front) left bytes part l h f fault e =
    let s = one_first_line (words_of line) (words_of a) (text_of ls ++ left) (text_of front ++ bytes) (no_newline line l.forms.0) (no_newline a f.forms.0) (sym (line_front line ls left) ∙ e ∙ line_front a front bytes) in
    let same = words_tell line a l.forms.0 f.forms.0 s.0 in
    let b = bind_some (next p line) (λ x. walk x ls) q l.reached in
    let c = bind_some (next p a) (λ x. walk x front) r f.reached in
    let there : b.0 ≡ c.0 = same_some (next p a) b.0 c.0 (ap (next p) (sym same) ∙ b.1) c.1 in
    no_fault b.0 q r ls front left bytes part (record { forms = l.forms.1; reached = b.2 }) h
    (record { forms = f.forms.1; reached = subst (λ (x : Progress). walk x front ≡ Some r) (sym there) c.2 }) fault s.1
