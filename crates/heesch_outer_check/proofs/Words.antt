-- How the text of an answer begins.
use Rattle.std.proofs.Common.{◌≡◌, ◌≢◌, ℕ, Bool, true, false, true≢false, eqb, Bor, List, [], ◌∷◌, ◌++◌, if◌then◌else◌, MatchOption, Option, Some, None, sym, ap, ◌∙◌, append_assoc, arith}
use Rattle.std.specs.Prelude.{codes, decimal}
use Rattle.std.proofs.lemmas.List.{append_cancel_left}
use Rattle.heesch_text.specs.declared.line.Line.{Line}
use Rattle.heesch_text.specs.declared.line.Line.TheVariants as lines
use Rattle.heesch_grid.specs.Names.{grid_word}
use Rattle.heesch_cert.specs.Sizes.{subject_word}
use Rattle.heesch_text.specs.Names.{version_text}
use Rattle.heesch_text.specs.Lines.{limits_text, line_text}
use Rattle.heesch_line.specs.Forms.{HasNoNewline}
use Rattle.heesch_reader.proofs.SameLines.{one_first_line}
use Rattle.heesch_outer.specs.Record.{answer_text, number_line}
use Rattle.heesch_outer.specs.declared.answer.OuterAnswer.{OuterAnswer}
use Rattle.heesch_outer.specs.declared.answer.OuterAnswer.TheVariants.{Tiles, Unknown, More, Same, Spent}
use Rattle.heesch_outer_check.specs.Lines.{BeginsNoLine}

-- ---- no line begins so

-- the second byte, and the fourth
abbrev pub second : List ℕ → ℕ
second (a ∷ b ∷ bytes) = b
second bytes = 0

abbrev pub fourth : List ℕ → ℕ
fourth (a ∷ b ∷ c ∷ d ∷ bytes) = d
fourth bytes = 0

begins_h : List ℕ → Bool
begins_h [] = false
begins_h (b ∷ bytes) = eqb b 104

headed : (byte : ℕ) (more a b c d e f g : List ℕ) (brief : Bool) → byte ≢ 101 → 104 ∷ byte ∷ more ≡ (if brief then codes "brief" else codes "heesch") ++ a ++ b ++ c ++ d ++ e ++ f ++ g → ⊥
unfolding begins_h
headed byte more a b c d e f g true other same = true≢false (ap begins_h same)
headed byte more a b c d e f g false other same = other (ap second same)

begun : (byte : ℕ) (more back : List ℕ) (line : Line) → byte ≢ 101 → 104 ∷ byte ∷ more ≡ line_text line ++ back → ⊥
unfolding begins_h
begun byte more back (lines.Header h) other e = headed byte more (version_text h.limits.version) (grid_word h.grid) (codes " ") (subject_word h.subject) (limits_text h.limits) (codes "\n") back h.brief other e
begun byte more back line other e = true≢false (ap begins_h e)

no_line_so : (byte : ℕ) (more : List ℕ) → byte ≢ 101 → BeginsNoLine (104 ∷ byte ∷ more)
no_line_so byte more other line back form e = begun byte more back line other e

-- no line of a catalogue begins as the text of an answer does
pub answer_begins_none : (h : ℕ) (answer : OuterAnswer) → BeginsNoLine (answer_text h answer)
answer_begins_none h Tiles = no_line_so 104 _ (λ e. omega (arith, e))
answer_begins_none h Unknown = no_line_so 104 _ (λ e. omega (arith, e))
answer_begins_none h (More layers) = no_line_so 99 _ (λ e. omega (arith, e))
answer_begins_none h (Same proof) = no_line_so 99 _ (λ e. omega (arith, e))
answer_begins_none h (Spent proof) = no_line_so 99 _ (λ e. omega (arith, e))

-- ---- a line of a label and a word

abbrev pub word_line : List ℕ → List ℕ → List ℕ
word_line label word = label ++ word ++ codes "\n"

pub word_split : (label word rest : List ℕ) → word_line label word ++ rest ≡ label ++ (word ++ 10 ∷ rest)
word_split label word rest = append_assoc (label ++ word) (10 ∷ []) rest ∙ append_assoc label word (10 ∷ rest)

-- behind one label stands one word
pub one_word : (label word other xs ys : List ℕ) → HasNoNewline word → HasNoNewline other → word_line label word ++ xs ≡ word_line label other ++ ys → (word ≡ other) × (xs ≡ ys)
one_word label word other xs ys f g e =
    one_first_line word other xs ys f g (append_cancel_left label (word ++ 10 ∷ xs) (other ++ 10 ∷ ys) (sym (word_split label word xs) ∙ e ∙ word_split label other ys))

pub spent_free : HasNoNewline (codes "spent")
spent_free = ((λ e. omega (arith, e)), ((λ e. omega (arith, e)), ((λ e. omega (arith, e)), ((λ e. omega (arith, e)), ((λ e. omega (arith, e)), tt)))))

-- ---- a line of a label and a number at the front

number_front : (label digits rest bytes more : List ℕ) (n : ℕ) → digits ≡ decimal n → bytes ≡ label ++ rest → bytes ≡ number_line label n ++ more → rest ≡ digits ++ 10 ∷ more
number_front label digits rest bytes more n d b e =
    append_cancel_left label rest (digits ++ 10 ∷ more) (sym b ∙ e ∙ word_split label (decimal n) more ∙ ap (λ (x : List ℕ). label ++ (x ++ 10 ∷ more)) (sym d))

pub number_missed : (label digits rest bytes : List ℕ) (n : ℕ) → digits ≡ decimal n → bytes ≡ label ++ rest → ((more : List ℕ) → rest ≢ digits ++ more) → (more : List ℕ) → bytes ≢ number_line label n ++ more
number_missed label digits rest bytes n d b none more e = none (10 ∷ more) (number_front label digits rest bytes more n d b e)

pub number_ends : (label digits rest left bytes : List ℕ) (n : ℕ) (r : Option (Bor (List ℕ))) → digits ≡ decimal n → bytes ≡ label ++ rest → rest ≡ digits ++ left
    → MatchOption r ((more : List ℕ) → left ≢ codes "\n" ++ more) (λ x. left ≡ codes "\n" ++ x.now) → MatchOption r ((more : List ℕ) → bytes ≢ number_line label n ++ more) (λ x. bytes ≡ number_line label n ++ x.now)
number_ends label digits rest left bytes n None d b s none = λ more e. none more (append_cancel_left digits left (10 ∷ more) (sym s ∙ number_front label digits rest bytes more n d b e))
number_ends label digits rest left bytes n (Some x) d b s is =
    b ∙ ap (λ (y : List ℕ). label ++ y) (s ∙ ap (λ (y : List ℕ). y ++ left) d ∙ ap (λ (y : List ℕ). decimal n ++ y) is) ∙ sym (word_split label (decimal n) x.now)
