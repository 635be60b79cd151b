-- Texts of whole lines, and the lines that a text has.
use Rattle.std.proofs.Common.{◌≡◌, ◌≢◌, ℕ, List, [], ◌∷◌, ◌++◌, refl, sym, ap, ◌∙◌, append_assoc}
use Rattle.std.specs.List.{AllByRecursion}
use Rattle.std.proofs.lemmas.List.{append-nil}
use Rattle.heesch_line.specs.Forms.{HasNoNewline}
use Rattle.heesch_exchange.specs.Models.{ended, text_of}
use Rattle.heesch_exchange.proofs.Bytes.{cut_same}

abbrev pub AreWhole : List (List ℕ) → Type 0
AreWhole lines = AllByRecursion HasNoNewline lines

-- a line of two texts: the same line, and the same text behind it
cut_lines : (a b r s : List ℕ) → HasNoNewline a → HasNoNewline b → ended a ++ r ≡ ended b ++ s → (a ≡ b) × (r ≡ s)
cut_lines a b r s fits fit e =
    let both : a ++ 10 ∷ r ≡ b ++ 10 ∷ s = sym (append_assoc a (10 ∷ []) r) ∙ e ∙ append_assoc b (10 ∷ []) s in
    let cut = cut_same 10 a (10 ∷ r) b (10 ∷ s) fits fit refl refl both in
    let tails : 10 ∷ r ≡ 10 ∷ s = cut.1 in
    (cut.0, cc)

-- a line with its newline is something
some_line : (a r : List ℕ) → ended a ++ r ≢ []
some_line [] r e = absurd cc
some_line (b ∷ a) r e = absurd cc

unended_line : (rest b s : List ℕ) → HasNoNewline rest → rest ≢ ended b ++ s
unended_line [] b s free e = some_line b s (sym e)
unended_line (x ∷ rest) [] s free e =
    let first : x ≡ 10 = cc in
    free.0 first
unended_line (x ∷ rest) (y ∷ b) s free e =
    let others : rest ≡ ended b ++ s = cc in
    unended_line rest b s free.1 others

-- the lines of a text that begins with these lines
pub record Begins (lines whole : List (List ℕ)) (more : List ℕ) : Type 0 where
  pub back : List (List ℕ)
  pub whole_is : whole ≡ lines ++ back
  pub more_is : more ≡ text_of back

pub begins : (lines whole : List (List ℕ)) (more : List ℕ) → AreWhole lines → AreWhole whole → text_of lines ++ more ≡ text_of whole → Begins lines whole more
begins [] whole more fits fit e = record { back = whole; whole_is = refl; more_is = e }
begins (a ∷ lines) [] more fits fit e = absurd (some_line a (text_of lines ++ more) (sym (append_assoc (ended a) (text_of lines) more) ∙ e))
begins (a ∷ lines) (b ∷ whole) more fits fit e =
    let cut = cut_lines a b (text_of lines ++ more) (text_of whole) fits.0 fit.0 (sym (append_assoc (ended a) (text_of lines) more) ∙ e) in
    let others = begins lines whole more fits.1 fit.1 cut.1 in
    let same : b ≡ a = sym cut.0 in
    let rest : whole ≡ lines ++ others.back = others.whole_is in
    record { back = others.back; whole_is = cc; more_is = others.more_is }

-- what begins with a line has it as its first line
pub record FirstLine (line more : List ℕ) (lines : List (List ℕ)) : Type 0 where
  pub back : List (List ℕ)
  pub lines_are : lines ≡ line ∷ back

pub first_line : (line more : List ℕ) (lines : List (List ℕ)) → HasNoNewline line → AreWhole lines → ended line ++ more ≡ text_of lines → FirstLine line more lines
first_line line more [] free fit e = absurd (some_line line more e)
first_line line more (b ∷ lines) free fit e =
    let cut = cut_lines line b more (text_of lines) free fit.0 e in
    let same : b ≡ line = sym cut.0 in
    record { back = lines; lines_are = cc }

-- what has no newline is no lines, or nothing
pub no_lines : (rest : List ℕ) (lines : List (List ℕ)) → HasNoNewline rest → rest ≡ text_of lines → (rest ≡ []) × (lines ≡ [])
no_lines rest [] free e = (e, refl)
no_lines rest (b ∷ lines) free e = absurd (unended_line rest b (text_of lines) free e)

pub text_push : (lines : List (List ℕ)) (line : List ℕ) → text_of (lines ++ line ∷ []) ≡ text_of lines ++ ended line
text_push [] line = append-nil (ended line)
text_push (a ∷ lines) line = ap (λ (t : List ℕ). ended a ++ t) (text_push lines line) ∙ sym (append_assoc (ended a) (text_of lines) (ended line))

pub text_append : (a b : List (List ℕ)) → text_of (a ++ b) ≡ text_of a ++ text_of b
text_append [] b = refl
text_append (x ∷ a) b = ap (λ (t : List ℕ). ended x ++ t) (text_append a b) ∙ sym (append_assoc (ended x) (text_of a) (text_of b))
