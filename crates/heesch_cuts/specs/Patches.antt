-- The patch of a level, the variables chosen in it, and the border of a hole of it.
use Rattle.std.specs.Prelude.{◌≡◌, ℕ, zero, suc, ◌≤◌, ◌⊎◌, Bool, true, false, ◌&&◌, ◌==◌, nat_lt, if◌then◌else◌, List, [], ◌++◌, length, All, Contains}
use Rattle.heesch_grid.specs.declared.Cell.{Cell}
use Rattle.heesch_grid.specs.Listing.{IsRising}
use Rattle.heesch_grid.specs.Cells.{has}
use Rattle.heesch_grid.specs.Geometry.{Geometry, Adjacent}
use Rattle.heesch_grid.specs.Corona.{cells_of}
use Rattle.heesch_grid.specs.CoronaFormula.{Variable, IsNumbered}
use Rattle.heesch_grid.specs.Statements.{chosen_layer}
use Rattle.heesch_cnf.specs.Clauses.{assignment_of}
use Rattle.heesch_cert.specs.Cuts.{IsInBorder}
use Rattle.heesch_place.specs.Universes.{Levels}
use Rattle.heesch_cuts.specs.Marks.{is_marked}
use Rattle.heesch_cuts.specs.Enclosing.{is_covered}

-- the cells of the shape and of the placements of the true variables of the levels 1 to k
abbrev pub patch_cells : Levels → List Bool → ℕ → List Cell
patch_cells u values zero = u.shape
patch_cells u values (suc k) = patch_cells u values k ++ cells_of (chosen_layer (assignment_of values) u.vars (suc k))

-- the cells are those of the patch of level k of a model of all variables of the universe, which is of the shape
pub record IsPatchOf (u : Levels) (shape : List Cell) (values : List Bool) (k : ℕ) (cells : List Cell) : Type 0 where
  pub shape_is : u.shape ≡ shape
  pub valued : length u.vars ≤ length values
  pub cells_are : cells ≡ patch_cells u values k

-- the cells that a numbered variable brings to the layer of level k
abbrev pub layer_cells : List Bool → ℕ → ℕ × Variable → List Cell
layer_cells values k x = if (x.1.level == k) && assignment_of values x.0 then x.1.tile else []

-- the number is that of a true variable of level at most k
pub record IsChosen (vars : List Variable) (values : List Bool) (k n : ℕ) : Type 0 where
  pub variable : Variable
  pub is_variable : IsNumbered vars n variable
  pub level : variable.level ≤ k
  pub value : assignment_of values n ≡ true

-- only such numbers are marked
abbrev pub AreChosen : List Variable → List Bool → ℕ → List Bool → Type 0
AreChosen vars values k marks = (n : ℕ) → is_marked marks n ≡ true → IsChosen vars values k n

-- what was marked still is
abbrev pub Grows : List Bool → List Bool → Type 0
Grows old new = (n : ℕ) → is_marked old n ≡ true → is_marked new n ≡ true

-- a cell of the patch is in the shape, or in a marked placement of level at most k
abbrev pub IsBordered : List Cell → List Variable → ℕ → List Cell → List Bool → Cell → Type 0
IsBordered shape vars k patch marks d = has patch d ≡ true → has shape d ≡ false → is_covered vars k marks d ≡ true

-- the numbers, rising, of chosen variables of level at most k; each cell of the patch beside one of these is in the shape or in one of their placements
pub record IsBorderOf (g : Geometry) (u : Levels) (values : List Bool) (k : ℕ) (hole : List Cell) (border : List ℕ) : Type 0 where
  pub rising : IsRising nat_lt border
  pub chosen : All (IsChosen u.vars values k) border
  pub around : (c d : Cell) → Contains hole c → Adjacent g c d → Contains (patch_cells u values k) d → Contains u.shape d ⊎ IsInBorder u.vars border d
