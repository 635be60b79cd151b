-- Tiles as the numbers of their reduced cells, and these numbers moved by steps.
use Rattle.std.specs.Prelude.{◌≡◌, ◌==◌, ◌≤◌, ℕ, ℤ, pos, Some, List, map}
use Rattle.std.specs.List.{slice_get, count_by}
use Rattle.std.specs.Int.{bit_at}
use Rattle.heesch_grid.specs.declared.Cell.{Cell}
use Rattle.heesch_grid.specs.declared.isometries.Iso.{Iso}
use Rattle.heesch_grid.specs.Geometry.{Geometry, moved}
use Rattle.heesch_grid.specs.Lattice.{Triple}
use Rattle.heesch_tiling.specs.Counting.{residue, tile_residues}
use Rattle.heesch_torus.specs.Formula.{reduced_cells}
use Rattle.heesch_torus.specs.declared.steps.Steps.{Steps}

-- the numbers are those of these cells among the reduced cells, one for each in its order
abbrev pub AreNumbersOf : Geometry → Triple → List Cell → List ℕ → Type 0
AreNumbersOf g t cells numbers = map (slice_get (reduced_cells g t)) numbers ≡ map Some cells

-- the points are the numbers of the tile's reduced cells, in the order of its cells
abbrev pub ArePointsOf : Geometry → List Cell → Triple → Iso → List ℕ → Type 0
ArePointsOf g shape t by points = AreNumbersOf g t (tile_residues g shape t by) points

-- the cell moved by so many units, and reduced
abbrev pub one_further : Geometry → Triple → ℤ → ℤ → Cell → Cell
one_further g t da db c = residue g t (moved g da db c)

-- the step has for each reduced cell, in cell order, the number of the cell moved by so many units and reduced
abbrev pub IsStep : Geometry → Triple → ℤ → ℤ → List ℕ → Type 0
IsStep g t da db step = AreNumbersOf g t (map (one_further g t da db) (reduced_cells g t)) step

-- the steps by one unit to the right and up
pub record AreSteps (g : Geometry) (t : Triple) (steps : Steps) : Type 0 where
  pub right : IsStep g t (pos 1) (pos 0) steps.right.items
  pub up : IsStep g t (pos 0) (pos 1) steps.up.items

-- the word has the bit of each number as often as the number stands in the list: once or not at all
abbrev pub HasBits : List ℕ → ℕ → Type 0
HasBits points word = (k : ℕ) → bit_at word k ≡ count_by (λ p. p == k) points

-- some number stands twice in the list
abbrev pub HasTwice : List ℕ → Type 0
HasTwice points = (k : ℕ) × (2 ≤ count_by (λ p. p == k) points)
