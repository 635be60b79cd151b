-- The lines of a text that begins with the lines of shapes.
use Rattle.std.proofs.Common.{◌≡◌, ◌≢◌, ℕ, ◌≤◌, Bool, true, false, eqb, List, [], ◌∷◌, ◌++◌, length, map, refl, ap, ◌∙◌, append_assoc, append-nil, arith}
use Rattle.std.specs.List.{AllByRecursion, onto_first}
use Rattle.std.proofs.lemmas.Bool.Decides.{nat_tests}
use Rattle.std.proofs.lemmas.List.Concat.{flat_map-append}
use Rattle.heesch_grid.specs.declared.Cell.{Cell}
use Rattle.heesch_text.specs.Fields.{cells_text}
use Rattle.heesch_text.specs.Shapes.{list_text, shape_text}
use Rattle.heesch_line.specs.Forms.{HasNoNewline}
use Rattle.heesch_line.specs.Lists.{lines_of, AreCells}
use Rattle.heesch_line.proofs.ListLaws.{first_line}
use Rattle.heesch_line.proofs.Newlines.{cells_free}

-- the lines of shapes come first
pub front_lines : (given : List (List Cell)) (rest : List ℕ) → AllByRecursion AreCells given → lines_of (list_text given ++ rest) ≡ map cells_text given ++ lines_of rest
front_lines [] rest fits = refl
front_lines (cells ∷ given) rest fits =
    let regroup : list_text (cells ∷ given) ++ rest ≡ cells_text cells ++ 10 ∷ (list_text given ++ rest) = append_assoc (shape_text cells) (list_text given) rest ∙ append_assoc (cells_text cells) (10 ∷ []) (list_text given ++ rest) in
    ap lines_of regroup ∙ first_line (cells_text cells) (list_text given ++ rest) (cells_free cells fits.0).is ∙ ap (λ (ls : List (List ℕ)). cells_text cells ∷ ls) (front_lines given rest fits.1)

-- one more shape's line
pub text_more : (given : List (List Cell)) (cells : List Cell) → list_text (given ++ cells ∷ []) ≡ list_text given ++ (cells_text cells ++ 10 ∷ [])
text_more given cells = flat_map-append shape_text given (cells ∷ []) ∙ ap (λ (t : List ℕ). list_text given ++ t) (append-nil (cells_text cells ++ 10 ∷ []))

other_byte : (b : ℕ) → b ≢ 10 → eqb b 10 ≡ false
other_byte b h = grind (arith, nat_tests, h)

-- a line with its newline
pub line_ended : (line rest : List ℕ) → HasNoNewline line → lines_of (line ++ 10 ∷ rest) ≡ line ∷ lines_of rest
line_ended [] rest h = refl
line_ended (b ∷ line) rest h = rw (other_byte b h.0, line_ended line rest h.1) refl

-- a text goes on in a line, which may go on too
pub record GoesOnIn (line text : List ℕ) : Type 0 where
  pub whole : List ℕ
  pub back : List (List ℕ)
  pub lines : lines_of text ≡ whole ∷ back
  pub long : length line ≤ length whole

-- the first line, where there is a byte
pub begun_line : (b : ℕ) (rest : List ℕ) → GoesOnIn [] (b ∷ rest)
begun_line b rest = by (eqb b 10) refl
  where
    onto : (lines : List (List ℕ)) → (whole : List ℕ) × (back : List (List ℕ)) × (onto_first b lines ≡ whole ∷ back)
    onto [] = (b ∷ [], [], refl)
    onto (l ∷ ls) = (b ∷ l, ls, refl)

    by : (t : Bool) → eqb b 10 ≡ t → GoesOnIn [] (b ∷ rest)
    by true h = record { whole = []; back = lines_of rest; lines = rw h refl; long = omega arith }
    by false h = let o = onto (lines_of rest) in record { whole = o.0; back = o.1; lines = rw h o.2; long = omega arith }

pub goes_on_in : (line : List ℕ) (b : ℕ) (rest : List ℕ) → HasNoNewline line → GoesOnIn line (line ++ b ∷ rest)
goes_on_in [] b rest h = begun_line b rest
goes_on_in (c ∷ line) b rest h =
    let more = goes_on_in line b rest h.1 in
    record { whole = c ∷ more.whole; back = more.back; lines = rw (other_byte c h.0, more.lines) refl; long = omega (arith, more.long) }

-- the last line, without a newline
pub last_line : (line : List ℕ) → line ≢ [] → HasNoNewline line → lines_of line ≡ line ∷ []
last_line [] some h = absurd (some refl)
last_line (b ∷ []) some h = rw (other_byte b h.0) refl
last_line (b ∷ c ∷ line) some h = rw (other_byte b h.0, last_line (c ∷ line) (λ e. cc) h.1) refl

-- a line goes on by a byte that is no newline
pub line_more : (line : List ℕ) (b : ℕ) → HasNoNewline line → b ≢ 10 → HasNoNewline (line ++ b ∷ [])
line_more [] b h other = (other, tt)
line_more (c ∷ line) b h other = (h.0, line_more line b h.1 other)
