-- The variables that have each cell, in lists, and by these which of them share a cell.
use Rattle.std.specs.Prelude.{◌≡◌, ℕ, ◌≤◌, true, List, length, All, Contains}
use Rattle.heesch_grid.specs.declared.Cell.{Cell}
use Rattle.heesch_grid.specs.Cells.{meet, set_of}
use Rattle.heesch_grid.specs.Geometry.{Geometry}
use Rattle.heesch_grid.specs.Lattice.{Triple}
use Rattle.heesch_torus.specs.Covering.{AreNumbers, AreCovering, cell_lists}
use Rattle.heesch_torus.specs.Variables.{TorusVariable, sets_of}
use Rattle.heesch_tori.specs.Rows.{AreRows}

-- the number is that of one of so many variables
abbrev pub IsVariable : ℕ → ℕ → Type 0
IsVariable vars n = (1 ≤ n) × (n ≤ vars)

-- one of the lists has both numbers
pub record HaveBoth (lists : List (List ℕ)) (u v : ℕ) : Type 0 where
  pub list : List ℕ
  pub listed : Contains lists list
  pub first : Contains list u
  pub second : Contains list v

-- the lists are of variables, and two variables share a cell just where a list has both
pub record AreCellLists (sets : List (List Cell)) (lists : List (List ℕ)) : Type 0 where
  pub numbers : All (AreNumbers (length sets)) lists
  pub both : (u v : ℕ) → IsVariable (length sets) u → IsVariable (length sets) v → meet (set_of sets u) (set_of sets v) ≡ true → HaveBoth lists u v
  pub shared : (u v : ℕ) → IsVariable (length sets) u → IsVariable (length sets) v → HaveBoth lists u v → meet (set_of sets u) (set_of sets v) ≡ true

-- what contracts see of a table: the variables, and for each cell the numbers of those that have it
pub record Tabled : Type 0 where
  pub variables : List TorusVariable
  pub lists : List (List ℕ)

-- the sets of its variables
abbrev pub tabled_sets : Tabled → List (List Cell)
tabled_sets t = sets_of t.variables

-- the table of these variables and lists
abbrev pub table_of : List TorusVariable → List (List ℕ) → Tabled
table_of variables lists = record { variables = variables; lists = lists }

-- the lists are those of the cells, and the rows of words have the bits that the lists tell
pub record IsTable (variables : List TorusVariable) (lists : List (List ℕ)) (width : ℕ) (words : List ℕ) : Type 0 where
  pub lists_are : AreCellLists (sets_of variables) lists
  pub few : length variables ≤ 4608
  pub few_lists : length lists ≤ 13824
  pub rows : AreRows (length variables) lists width words

-- the lists are those of the reduced cells, in cell order: for each the variables that have it
pub record AreReducedLists (g : Geometry) (t : Triple) (sets : List (List Cell)) (lists : List (List ℕ)) : Type 0 where
  pub covering : List (List ℕ)
  pub are_covering : AreCovering g t sets covering
  pub is : lists ≡ cell_lists g t covering
