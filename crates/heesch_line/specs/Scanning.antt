-- One line of a list, as far as its bytes were read.
use Rattle.std.specs.Prelude.{◌≡◌, ◌≢◌, ℕ, ◌<◌, ◌≤◌, List, ◌++◌, length, take, codes, Bool, true, false}
use Rattle.std.specs.List.{AllByRecursion, flat_map}
use Rattle.heesch_grid.specs.declared.Cell.{Cell}
use Rattle.heesch_text.specs.Fields.{cell_text, cells_text}
use Rattle.heesch_line.specs.Lists.{AreCells}

-- what is kept of a line: its first cells, the word that isn't ended, and whether the line is known to be none of a list
pub record Scanned : Type 0 where
  pub cells : List Cell
  pub word : List ℕ
  pub faulty : Bool

-- the first cells of a line, one more than a shape has at most
abbrev pub first_of : List Cell → List Cell
first_of cells = take 33 cells

-- the cells, each with a space behind it
abbrev pub ended_words : List Cell → List ℕ
ended_words cells = flat_map (λ c. cell_text c ++ codes " ") cells

-- no byte is a space
abbrev pub HasNoSpace : List ℕ → Type 0
HasNoSpace bytes = AllByRecursion (λ b. b ≢ 32) bytes

-- the bytes are cells, each with a space behind it, and a word that isn't ended; these are the first of the cells
pub record HasCells (bytes : List ℕ) (first : List Cell) (word : List ℕ) : Type 0 where
  pub all : List Cell
  pub are : AreCells all
  pub text : bytes ≡ ended_words all ++ word
  pub first_are : first ≡ first_of all
  pub one_word : HasNoSpace word
  pub short : length word ≤ 23

-- no line of a list begins with the bytes
abbrev pub BeginsNoLine : List ℕ → Type 0
BeginsNoLine bytes = (rest : List ℕ) (cells : List Cell) → AreCells cells → bytes ++ rest ≢ cells_text cells

-- what is kept of bytes, by whether they begin a line of a list
abbrev pub Keeps : List ℕ → List Cell → List ℕ → Bool → Type 0
Keeps bytes first word true = BeginsNoLine bytes
Keeps bytes first word false = HasCells bytes first word

-- these bytes of the line were read
abbrev pub IsScanned : List ℕ → Scanned → Type 0
IsScanned bytes s = Keeps bytes s.cells s.word s.faulty

-- the line is the text of cells, and these are the first of them
pub record IsLineOf (line : List ℕ) (first : List Cell) : Type 0 where
  pub all : List Cell
  pub are : AreCells all
  pub text : line ≡ cells_text all
  pub first_are : first ≡ first_of all

-- the line is the text of no cells that a list may have
abbrev pub IsNoLine : List ℕ → Type 0
IsNoLine line = (cells : List Cell) → AreCells cells → line ≢ cells_text cells

-- a further cell of the line would be kept: the line may be one of a list, and fewer than 33 cells are
pub record NeedsRoom (s : Scanned) : Type 0 where
  pub going : s.faulty ≡ false
  pub few : length s.cells < 33
