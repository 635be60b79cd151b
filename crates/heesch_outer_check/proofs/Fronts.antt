-- The lines at the front of a text.
use Rattle.std.proofs.Common.{◌≡◌, ◌≢◌, inl, inr, ℕ, List, [], ◌∷◌, ◌++◌, MatchOption, Option, Some, None, refl, sym, ap, subst, ◌∙◌, append_assoc}
use Rattle.std.specs.List.{AllByRecursion}
use Rattle.std.proofs.lemmas.List.{append-nil}
use Rattle.std.proofs.lemmas.List.Concat.{flat_map-append}
use Rattle.heesch_text.specs.declared.line.Line.{Line}
use Rattle.heesch_text.specs.Lines.{words_of, line_text, text_of}
use Rattle.heesch_line.specs.Forms.{IsLine, HasNoNewline}
use Rattle.heesch_line.proofs.Newlines.{no_newline}
use Rattle.heesch_reader.proofs.SameLines.{along, line_front, one_first_line, no_first_line}
use Rattle.heesch_outer_check.specs.Lines.{AreFrontLines, AreLinesOf, BeginsNoLine}

-- ---- bytes that begin no line

-- bytes without a newline
pub none_unended : (rest : List ℕ) → HasNoNewline rest → BeginsNoLine rest
none_unended rest h line back form e = no_first_line (words_of line) back rest h (e ∙ append_assoc (words_of line) (10 ∷ []) back)

-- bytes whose first line has no line's words
pub none_spelled : (rest words behind : List ℕ) → rest ≡ words ++ 10 ∷ behind → HasNoNewline words → ((line : Line) → IsLine line → words_of line ≢ words) → BeginsNoLine rest
none_spelled rest words behind cut one_line not line back form e =
    let both : words_of line ++ 10 ∷ back ≡ words ++ 10 ∷ behind = sym (append_assoc (words_of line) (10 ∷ []) back) ∙ sym e ∙ cut in
    not line form (one_first_line (words_of line) words back behind (no_newline line form) one_line both).0

-- ---- one more line

pub text_more : (ls : List Line) (line : Line) (behind : List ℕ) → text_of (ls ++ line ∷ []) ++ behind ≡ text_of ls ++ (words_of line ++ 10 ∷ behind)
text_more ls line behind =
    ap (λ (x : List ℕ). x ++ behind) (flat_map-append line_text ls (line ∷ []))
    ∙ append_assoc (text_of ls) (text_of (line ∷ [])) behind
    ∙ ap (λ (x : List ℕ). text_of ls ++ x) (line_front line [] behind)

pub one_more : (bytes rest words behind : List ℕ) (ls : List Line) (line : Line) → words_of line ≡ words → rest ≡ words ++ 10 ∷ behind → bytes ≡ text_of ls ++ rest
    → bytes ≡ text_of (ls ++ line ∷ []) ++ behind
one_more bytes rest words behind ls line w r e =
    e ∙ ap (λ (x : List ℕ). text_of ls ++ x) (r ∙ ap (λ (x : List ℕ). x ++ 10 ∷ behind) (sym w)) ∙ sym (text_more ls line behind)

-- ---- one front

-- lines that stand before bytes that begin none
no_line : (more : List Line) (a b : List ℕ) → BeginsNoLine a → AllByRecursion IsLine more → a ≡ text_of more ++ b → more ≡ []
no_line [] a b none forms e = refl
no_line (l ∷ more) a b none forms e = absurd (none l (text_of more ++ b) forms.0 (e ∙ append_assoc (line_text l) (text_of more) b))

-- as many lines as stand at the front of a text, and the bytes behind them, are known by the text
pub one_front : (ls ms : List Line) (a b : List ℕ) → AllByRecursion IsLine ls → AllByRecursion IsLine ms → BeginsNoLine a → BeginsNoLine b → text_of ls ++ a ≡ text_of ms ++ b → (ls ≡ ms) × (a ≡ b)
one_front ls ms a b f g h k e =
    elim (along ls ms a b f g e) [
      | inl r ↦
          let none : r.more ≡ [] = no_line r.more a b h r.forms r.bytes in
          (sym (r.lines ∙ ap (λ (x : List Line). ls ++ x) none ∙ append-nil ls), r.bytes ∙ ap (λ (x : List Line). text_of x ++ b) none)
      | inr r ↦
          let none : r.more ≡ [] = no_line r.more b a k r.forms r.bytes in
          (r.lines ∙ ap (λ (x : List Line). ms ++ x) none ∙ append-nil ms, sym (r.bytes ∙ ap (λ (x : List Line). text_of x ++ a) none))
    ]

-- ---- all lines

pub none_empty : BeginsNoLine []
none_empty = none_unended [] tt

-- where bytes are left that begin no line, the bytes are no lines' text
not_all : (bytes rest : List ℕ) (ls ms : List Line) → bytes ≡ text_of ls ++ rest → AllByRecursion IsLine ls → BeginsNoLine rest → rest ≢ [] → AreLinesOf bytes ms → ⊥
not_all bytes rest ls ms e forms none some all =
    some (one_front ls ms rest [] forms all.1 none none_empty (sym e ∙ all.0 ∙ sym (append-nil (text_of ms)))).1

-- the lines at the front are all, where no byte is left behind them
pub all_or_none : {V : Type 0} (r : Option V) (items : V → List Line) (bytes rest : List ℕ) (ls : List Line) → AreFrontLines bytes ls rest → MatchOption r (rest ≢ []) (λ v. (rest ≡ []) × (items v ≡ ls))
    → MatchOption r ((ms : List Line) → AreLinesOf bytes ms → ⊥) (λ v. AreLinesOf bytes (items v))
all_or_none None items bytes rest ls front some = λ ms all. not_all bytes rest ls ms front.text front.forms front.no_more some all
all_or_none (Some v) items bytes rest ls front all =
    subst (λ (x : List Line). AreLinesOf bytes x) (sym all.1) (front.text ∙ ap (λ (x : List ℕ). text_of ls ++ x) all.0 ∙ append-nil (text_of ls), front.forms)
