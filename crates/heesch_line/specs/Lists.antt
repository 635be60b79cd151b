-- The text of a list of shapes, line by line.
use Rattle.std.specs.Prelude.{◌≡◌, ◌≢◌, ◌⊎◌, ℕ, ◌+◌, ◌<◌, ◌≤◌, List, [], ◌∷◌, ◌++◌, length, map, if◌then◌else◌, ◌==◌, Option, Some, None}
use Rattle.std.specs.List.{AllByRecursion, onto_first}
use Rattle.heesch_grid.specs.declared.Cell.{Cell}
use Rattle.heesch_grid.specs.Vectors.{IsWithin}
use Rattle.heesch_text.specs.Fields.{cells_text}
use Rattle.heesch_line.specs.declared.list.ListStop.{ListStop}
use Rattle.heesch_line.specs.declared.list.ListStop.TheVariants.{NotText, TooManyShapes, NoMemory}

-- the lines of a text without their newlines; that of the last one may be missing
abbrev pub lines_of : List ℕ → List (List ℕ)
lines_of [] = []
lines_of (b ∷ bytes) = if b == 10 then [] ∷ lines_of bytes else onto_first b (lines_of bytes)

-- any cells within 100,000 of 0, or none
abbrev pub AreCells : List Cell → Type 0
AreCells cells = AllByRecursion (IsWithin 100000) cells

-- the text is a list's, and these are the cells of its lines
pub record IsListText (text : List ℕ) (shapes : List (List Cell)) : Type 0 where
  pub lines : lines_of text ≡ map cells_text shapes
  pub cells : AllByRecursion AreCells shapes
  pub most : length shapes ≤ 10000

-- these are the cells of the first lines, and then this line follows
pub record GoesOn (text : List ℕ) (shapes : List (List Cell)) (line : List ℕ) : Type 0 where
  pub back : List (List ℕ)
  pub lines : lines_of text ≡ map cells_text shapes ++ line ∷ back
  pub cells : AllByRecursion AreCells shapes

-- the line of this number, from 1, is no line of a list, after the lines of fewer than 10,000 shapes
pub record IsFaulty (text : List ℕ) (shapes : List (List Cell)) (number : ℕ) : Type 0 where
  pub line : List ℕ
  pub goes_on : GoesOn text shapes line
  pub number_is : number ≡ length shapes + 1
  pub in_time : length shapes < 10000
  pub not_listed : (cells : List Cell) → AreCells cells → line ≢ cells_text cells

-- the line of this number begins after the lines of 10,000 shapes
pub record IsTooMany (text : List ℕ) (shapes : List (List Cell)) (number : ℕ) : Type 0 where
  pub line : List ℕ
  pub goes_on : GoesOn text shapes line
  pub number_is : number ≡ 10001
  pub full : length shapes ≡ 10000

-- the text is no list's, for this reason, and these are the cells of the lines before
abbrev pub StopsAfter : List ℕ → List (List Cell) → ListStop → Type 0
StopsAfter text shapes (NotText line) = IsFaulty text shapes line
StopsAfter text shapes (TooManyShapes line) = IsTooMany text shapes line
StopsAfter text shapes NoMemory = ⊥

-- the shapes are those of all lines of a list, or those up to where it stops to be one
abbrev pub AreRead : List ℕ → List (List Cell) → Option ListStop → Type 0
AreRead text shapes None = IsListText text shapes
AreRead text shapes (Some stop) = StopsAfter text shapes stop

-- the text is no list's, for this reason, unless memory ran out
abbrev pub Stops : List ℕ → ListStop → Type 0
Stops text stop = ((shapes : List (List Cell)) × StopsAfter text shapes stop) ⊎ (stop ≡ NoMemory)
