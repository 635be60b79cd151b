-- For each variable a row of bits, one for each cell.
use Rattle.std.specs.Prelude.{◌≡◌, ℕ, ◌+◌, ◌*◌, ◌<◌, ◌≤◌, List, [], length, slice_index_or, Contains}
use Rattle.heesch_encode.specs.Marks.{IsMarked}

-- the number of the bit of a cell in the row of a variable, both by their places from 0, where a row has so many words
abbrev pub bit_number : ℕ → ℕ → ℕ → ℕ
bit_number width at cell = 64 * (at * width) + cell

-- both rows have the bit of one cell
pub record HaveCommonBit (words : List ℕ) (width at other : ℕ) : Type 0 where
  pub cell : ℕ
  pub inside : cell < 64 * width
  pub first : IsMarked words (bit_number width at cell)
  pub second : IsMarked words (bit_number width other cell)

-- a row has the bits of the cells, from 0, among the first so many, whose lists have the variable, and no others
pub record AreRowsTo (count : ℕ) (lists : List (List ℕ)) (width : ℕ) (words : List ℕ) : Type 0 where
  pub only : (at cell : ℕ) → cell < 64 * width → IsMarked words (bit_number width at cell) → (cell < count) × Contains (slice_index_or lists cell []) (at + 1)
  pub every : (at cell : ℕ) → cell < count → Contains (slice_index_or lists cell []) (at + 1) → IsMarked words (bit_number width at cell)

-- a row of words for each of so many variables, with a bit for each list
pub record AreRows (vars : ℕ) (lists : List (List ℕ)) (width : ℕ) (words : List ℕ) : Type 0 where
  pub long : length words ≡ vars * width
  pub wide : length lists ≤ 64 * width
  pub narrow : width ≤ 1000
  pub bits : AreRowsTo (length lists) lists width words
