-- The lines of a list: what is read of one, and what the reading of all says of the text.
use Rattle.std.proofs.Common.{◌≡◌, ◌≢◌, ℕ, suc, ◌+◌, ◌<◌, ◌≤◌, Bool, true, false, not, eqb, List, [], ◌∷◌, ◌++◌, length, map, Some, None, refl, sym, ap, subst, ◌∙◌, arith, ◌⊎◌, inl, inr}
use Rattle.std.specs.Prelude.{codes}
use Rattle.std.specs.Fmt.{signed_decimal}
use Rattle.std.specs.List.{AllByRecursion}
use Rattle.std.proofs.lemmas.Bool.{eqb-true}
use Rattle.std.proofs.lemmas.Bool.Decides.{nat_tests}
use Rattle.std.proofs.lemmas.List.{append-nil, length-append}
use Rattle.heesch_grid.specs.declared.Cell.{Cell}
use Rattle.heesch_grid.specs.Vectors.{IsWithin}
use Rattle.heesch_text.specs.Fields.{spaced, cell_text, cells_text}
use Rattle.heesch_line.specs.Forms.{AreSome}
use Rattle.heesch_line.specs.Lists.{lines_of, AreCells, IsListText, IsFaulty, IsTooMany}
use Rattle.heesch_line.specs.Reading.{◌>>=◌, behind, literal_at, cells_at, line_end, list_line_at}
use Rattle.heesch_line.proofs.Steps.{some, some_is, none_some, bind_some, behind_some, literal_part}
use Rattle.heesch_line.proofs.WordLaws.{cells_read, cells_again}
use Rattle.heesch_line.proofs.Newlines.{free, parts, cells_free}

-- ---- the first line of a text

other_byte : (b : ℕ) → not (eqb b 10) ≡ true → eqb b 10 ≡ false
other_byte b h = grind (arith, nat_tests)

-- a line with its newline
pub first_line : (line after : List ℕ) → free line ≡ true → lines_of (line ++ 10 ∷ after) ≡ line ∷ lines_of after
first_line [] after h = refl
first_line (b ∷ line) after h =
    let p = parts (not (eqb b 10)) (free line) h in
    rw (other_byte b p.0, first_line line after p.1) refl

-- the last line without a newline
last_line : (line : List ℕ) → line ≢ [] → free line ≡ true → lines_of line ≡ line ∷ []
last_line [] some h = absurd (some refl)
last_line (b ∷ []) some h =
    let p = parts (not (eqb b 10)) true h in
    rw (other_byte b p.0) refl
last_line (b ∷ c ∷ line) some h =
    let p = parts (not (eqb b 10)) (free (c ∷ line)) h in
    let differs : (c ∷ line) ≢ [] = λ e. cc in
    rw (other_byte b p.0, last_line (c ∷ line) differs p.1) refl

-- how a text begins
record BeginsWithLine (bytes : List ℕ) : Type 0 where
  line : List ℕ
  after : List ℕ
  lines : lines_of bytes ≡ line ∷ lines_of after
  whole : (bytes ≡ line ++ 10 ∷ after) ⊎ ((bytes ≡ line) × (after ≡ []))

line_step : (b : ℕ) (bytes : List ℕ) (t : Bool) → eqb b 10 ≡ t → BeginsWithLine (b ∷ bytes) ⊎ (eqb b 10 ≡ false)
line_step b bytes true h =
    let same : b ≡ 10 = eqb-true b 10 h in
    inl (record { line = []; after = bytes; lines = rw h refl; whole = inl (ap (λ (c : ℕ). c ∷ bytes) same) })
line_step b bytes false h = inr h

longer : (b : ℕ) (bytes : List ℕ) → eqb b 10 ≡ false → BeginsWithLine bytes → BeginsWithLine (b ∷ bytes)
longer b bytes h more = record {
  line = b ∷ more.line;
  after = more.after;
  lines = rw (h, more.lines) refl;
  whole = elim more.whole [
    | inl w ↦ inl (ap (λ (t : List ℕ). b ∷ t) w)
    | inr w ↦ inr (ap (λ (t : List ℕ). b ∷ t) w.0, w.1)
  ];
}

begins_with_line : (b : ℕ) (bytes : List ℕ) → BeginsWithLine (b ∷ bytes)
begins_with_line b [] = elim (line_step b [] (eqb b 10) refl) [
  | inl found ↦ found
  | inr h ↦ record { line = b ∷ []; after = []; lines = rw h refl; whole = inr (refl, refl) }
]
begins_with_line b (c ∷ bytes) = elim (line_step b (c ∷ bytes) (eqb b 10) refl) [
  | inl found ↦ found
  | inr h ↦ longer b (c ∷ bytes) h (begins_with_line c bytes)
]

-- ---- the first line of a list

nonzero : (n : ℕ) → eqb (suc n) 0 ≡ false
nonzero n = grind (arith, nat_tests)

-- what the test for no bytes says
pub some_bytes : (bytes : List ℕ) → false ≡ eqb (length bytes) 0 → bytes ≢ []
some_bytes [] e = λ _. absurd cc
some_bytes (b ∷ bytes) e = λ n. cc

cells_long : (c : Cell) (cells : List Cell) → cells_text (c ∷ cells) ≢ []
cells_long c cells e =
    let first = length-append (cell_text c) (spaced cell_text cells) in
    let second = length-append (signed_decimal c.a ++ codes ",") (signed_decimal c.b) in
    let third = length-append (signed_decimal c.a) (codes ",") in
    let none : length (cells_text (c ∷ cells)) ≡ 0 = ap length e in
    absurd (omega arith)

no_newline_first : (line rest : List ℕ) → line ≢ [] → free line ≡ true → literal_at (codes "\n") (line ++ rest) ≡ None
no_newline_first [] rest some h = absurd (some refl)
no_newline_first (b ∷ line) rest some h =
    let p = parts (not (eqb b 10)) (free line) h in
    rw (other_byte b p.0) refl

some_cells : (c : Cell) (cells : List Cell) → AreCells (c ∷ cells) → AreSome (IsWithin 100000) (c ∷ cells)
some_cells c cells fits = record { some = λ e. cc; each = fits }

pub list_line_again : (cells : List Cell) (after : List ℕ) → AreCells cells → list_line_at (cells_text cells ++ 10 ∷ after) ≡ Some (cells, after)
unfolding list_line_at
list_line_again [] after fits = refl
list_line_again (c ∷ cells) after fits =
    let other = no_newline_first (cells_text (c ∷ cells)) (10 ∷ after) (cells_long c cells) (cells_free (c ∷ cells) fits).is in
    let again = cells_again (c ∷ cells) (10 ∷ after) (some_cells c cells fits) refl refl in
    rw (other, again, nonzero (length after)) refl

last_list_line_again : (cells : List Cell) → AreCells cells → cells_text cells ≢ [] → list_line_at (cells_text cells) ≡ Some (cells, [])
unfolding list_line_at
last_list_line_again [] fits some = absurd (some refl)
last_list_line_again (c ∷ cells) fits some =
    let other = no_newline_first (cells_text (c ∷ cells)) [] some (cells_free (c ∷ cells) fits).is in
    let again = cells_again (c ∷ cells) [] (some_cells c cells fits) refl refl in
    let whole : behind (literal_at (codes "\n") (cells_text (c ∷ cells) ++ [])) (λ rest. Some ([], rest)) (cells_at (cells_text (c ∷ cells) ++ []) >>= λ found. line_end found.0 found.1) ≡ Some (c ∷ cells, []) = rw (other, again) refl in
    rw (append-nil (cells_text (c ∷ cells))) at whole

-- a first line of which no cells are read is none of a list
pub record FirstIsFaulty (bytes : List ℕ) : Type 0 where
  pub line : List ℕ
  pub back : List (List ℕ)
  pub lines : lines_of bytes ≡ line ∷ back
  pub not_listed : (cells : List Cell) → AreCells cells → line ≢ cells_text cells

faulty_line : (bytes : List ℕ) → bytes ≢ [] → list_line_at bytes ≡ None → (begins : BeginsWithLine bytes) → (cells : List Cell) → AreCells cells → begins.line ≢ cells_text cells
faulty_line bytes some nothing begins cells fits same = elim begins.whole [
  | inl w ↦
      let whole : bytes ≡ cells_text cells ++ 10 ∷ begins.after = w ∙ ap (λ (t : List ℕ). t ++ 10 ∷ begins.after) same in
      none_some (cells, begins.after) (sym nothing ∙ ap list_line_at whole ∙ list_line_again cells begins.after fits)
  | inr w ↦
      let whole : bytes ≡ cells_text cells = w.0 ∙ same in
      let more : cells_text cells ≢ [] = λ e. some (whole ∙ e) in
      none_some (cells, []) (sym nothing ∙ ap list_line_at whole ∙ last_list_line_again cells fits more)
]

first_faulty : (bytes : List ℕ) → bytes ≢ [] → list_line_at bytes ≡ None → FirstIsFaulty bytes
first_faulty [] some nothing = absurd (some refl)
first_faulty (b ∷ bytes) some nothing =
    let begins = begins_with_line b bytes in
    record { line = begins.line; back = lines_of begins.after; lines = begins.lines; not_listed = faulty_line (b ∷ bytes) some nothing begins }

-- the first line of a list that was read
pub record FirstIsCells (bytes : List ℕ) (x : List Cell × List ℕ) : Type 0 where
  pub cells : AreCells x.0
  pub lines : lines_of bytes ≡ cells_text x.0 ∷ lines_of x.1

ended : (bytes : List ℕ) (cells : List Cell) (rest : List ℕ) (x : List Cell × List ℕ) → AreSome (IsWithin 100000) cells → bytes ≡ cells_text cells ++ rest → line_end cells rest ≡ some x → FirstIsCells bytes x
ended bytes [] rest x fits parts e = absurd (fits.some refl)
ended bytes (c ∷ cells) [] x fits parts e =
    let made : List Cell × List ℕ = (c ∷ cells, []) in
    let whole : bytes ≡ cells_text (c ∷ cells) = parts ∙ append-nil (cells_text (c ∷ cells)) in
    let lines = ap lines_of whole ∙ last_line (cells_text (c ∷ cells)) (cells_long c cells) (cells_free (c ∷ cells) fits.each).is in
    subst (λ (y : List Cell × List ℕ). FirstIsCells bytes y) (some_is made x e) (record { cells = fits.each; lines = lines })
ended bytes (c ∷ cells) (b ∷ rest) x fits parts e =
    let more = rw (nonzero (length rest)) at e in
    let l = bind_some (literal_at (codes "\n") (b ∷ rest)) _ x more in
    let made : List Cell × List ℕ = (c ∷ cells, l.0) in
    let newline = (literal_part (codes "\n") (b ∷ rest) l.0 l.1).parts in
    let whole : bytes ≡ cells_text (c ∷ cells) ++ 10 ∷ l.0 = parts ∙ ap (λ (t : List ℕ). cells_text (c ∷ cells) ++ t) newline in
    let lines = ap lines_of whole ∙ first_line (cells_text (c ∷ cells)) l.0 (cells_free (c ∷ cells) fits.each).is in
    subst (λ (y : List Cell × List ℕ). FirstIsCells bytes y) (some_is made x l.2) (record { cells = fits.each; lines = lines })

list_line_read : (bytes : List ℕ) (x : List Cell × List ℕ) → list_line_at bytes ≡ Some x → FirstIsCells bytes x
unfolding list_line_at
list_line_read bytes x e = elim (behind_some (literal_at (codes "\n") bytes) _ _ x e) [
  | inl a ↦
      let made : List Cell × List ℕ = ([], a.0) in
      let newline = (literal_part (codes "\n") bytes a.0 a.1).parts in
      subst (λ (y : List Cell × List ℕ). FirstIsCells bytes y) (some_is made x a.2) (record { cells = tt; lines = ap lines_of newline })
  | inr n ↦
      let c = bind_some (cells_at bytes) _ x n.1 in
      let read = cells_read bytes c.0 c.1 in
      ended bytes c.0.0 c.0.1 x read.fits read.takes.parts c.2
]

-- ---- all lines

-- what the lines up to the rest gave
pub record HasRead (text : List ℕ) (shapes : List (List Cell)) (before : ℕ) (rest : List ℕ) : Type 0 where
  pub count : length shapes ≡ before
  pub cells : AllByRecursion AreCells shapes
  pub lines : lines_of text ≡ map cells_text shapes ++ lines_of rest

pub starts : (text : List ℕ) → HasRead text [] 0 text
starts text = record { count = refl; cells = tt; lines = refl }

each_append : {X : Type 0} (P : X → Type 0) (xs : List X) (x : X) → AllByRecursion P xs → P x → AllByRecursion P (xs ++ x ∷ [])
each_append P [] x h k = (k, tt)
each_append P (y ∷ ys) x h k = (h.0, each_append P ys x h.1 k)

map_append : {X Y : Type 0} (f : X → Y) (xs : List X) (x : X) (back : List Y) → map f (xs ++ x ∷ []) ++ back ≡ map f xs ++ f x ∷ back
map_append {X} {Y} f [] x back = refl
map_append {X} {Y} f (y ∷ ys) x back = ap (λ (t : List Y). f y ∷ t) (map_append f ys x back)

pub goes_on : (text : List ℕ) (shapes : List (List Cell)) (before : ℕ) (rest : List ℕ) (cells : List Cell) (after : List ℕ) → HasRead text shapes before rest → list_line_at rest ≡ Some (cells, after)
    → HasRead text (shapes ++ cells ∷ []) (before + 1) after
goes_on text shapes before rest cells after so e =
    let first = list_line_read rest (cells, after) e in
    let count = so.count in
    let more = length-append shapes (cells ∷ []) in
    record {
      count = omega arith;
      cells = each_append AreCells shapes cells so.cells first.cells;
      lines = so.lines ∙ ap (λ (t : List (List ℕ)). map cells_text shapes ++ t) first.lines ∙ sym (map_append cells_text shapes cells (lines_of after));
    }

pub ends : (text : List ℕ) (shapes : List (List Cell)) (before : ℕ) (rest : List ℕ) → HasRead text shapes before rest → rest ≡ [] → before ≤ 10000 → IsListText text shapes
ends text shapes before rest so nothing le =
    let count = so.count in
    let all : lines_of text ≡ map cells_text shapes = so.lines ∙ ap (λ (t : List ℕ). map cells_text shapes ++ lines_of t) nothing ∙ append-nil (map cells_text shapes) in
    record { lines = all; cells = so.cells; most = omega arith }

pub faults : (text : List ℕ) (shapes : List (List Cell)) (before : ℕ) (rest : List ℕ) → HasRead text shapes before rest → rest ≢ [] → before < 10000 → list_line_at rest ≡ None → IsFaulty text shapes (before + 1)
faults text shapes before rest so some lt nothing =
    let first = first_faulty rest some nothing in
    let count = so.count in
    let parted = so.lines ∙ ap (λ (t : List (List ℕ)). map cells_text shapes ++ t) first.lines in
    record {
      line = first.line;
      goes_on = record { back = first.back; lines = parted; cells = so.cells };
      number_is = omega arith;
      in_time = omega arith;
      not_listed = first.not_listed;
    }

pub too_many : (text : List ℕ) (shapes : List (List Cell)) (before : ℕ) (rest : List ℕ) → HasRead text shapes before rest → rest ≢ [] → before ≡ 10000 → IsTooMany text shapes 10001
too_many text shapes before [] so some full = absurd (some refl)
too_many text shapes before (b ∷ rest) so some full =
    let begins = begins_with_line b rest in
    let count = so.count in
    let parted = so.lines ∙ ap (λ (t : List (List ℕ)). map cells_text shapes ++ t) begins.lines in
    record {
      line = begins.line;
      goes_on = record { back = lines_of begins.after; lines = parted; cells = so.cells };
      number_is = refl;
      full = omega arith;
    }
