-- Variables of the torus formula: residue sets, each with its isometry.
use Rattle.std.specs.Prelude.{◌≡◌, suc, ◌≤◌, ◌⊎◌, ◌↔◌, List, map, length, All, Contains}
use Rattle.heesch_grid.specs.declared.Cell.{Cell}
use Rattle.heesch_grid.specs.declared.isometries.Iso.{Iso}
use Rattle.heesch_grid.specs.Listing.{IsRising}
use Rattle.heesch_grid.specs.Cells.{cell_before}
use Rattle.heesch_grid.specs.Geometry.{Geometry}
use Rattle.heesch_grid.specs.Lattice.{Triple, IsReduced}
use Rattle.heesch_grid.specs.TorusFormula.{AreTorusVariables, IsIsometryOf}

-- a residue set and an isometry
pub record TorusVariable : Type 0 where
  pub cells : List Cell
  pub by : Iso

abbrev pub torus_variable : List Cell → Iso → TorusVariable
torus_variable cells by = record { cells = cells; by = by }

-- the residue sets alone
abbrev pub sets_of : List TorusVariable → List (List Cell)
sets_of vars = map (λ (x : TorusVariable). x.cells) vars

-- the new variables are the old ones and one more
pub record Adds (x : TorusVariable) (old new : List TorusVariable) : Type 0 where
  pub members : (y : TorusVariable) → Contains new y ↔ ((x ≡ y) ⊎ Contains old y)
  pub longer : length new ≡ suc (length old)

-- the variable is one more, unless its residue set was there before
abbrev pub AddsFirst : TorusVariable → List TorusVariable → List TorusVariable → Type 0
AddsFirst x old new = (Contains (sets_of old) x.cells × (new ≡ old)) ⊎ ((¬ Contains (sets_of old) x.cells) × Adds x old new)

-- the isometry is that of the residue set
abbrev pub HasIsometry : Geometry → List Cell → Triple → TorusVariable → Type 0
HasIsometry g shape t x = IsIsometryOf g shape t x.cells x.by

-- the variables of the torus formula in number order, each with its isometry
pub record AreVariables (g : Geometry) (shape : List Cell) (t : Triple) (vars : List TorusVariable) : Type 0 where
  pub listed : AreTorusVariables g shape t (sets_of vars)
  pub isometries : All (HasIsometry g shape t) vars
  pub few : length vars ≤ 4608

-- the cells are reduced, and stand in cell order
pub record IsReducedSet (g : Geometry) (t : Triple) (cells : List Cell) : Type 0 where
  pub reduced : All (IsReduced g t) cells
  pub rising : IsRising cell_before cells

abbrev pub AreReducedSets : Geometry → Triple → List (List Cell) → Type 0
AreReducedSets g t sets = All (IsReducedSet g t) sets
