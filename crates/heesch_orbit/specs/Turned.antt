-- A shape under all turns.
use Rattle.std.specs.Prelude.{◌≡◌, ℕ, ◌<◌, true, List, [], ◌∷◌, length, slice_index_or}
use Rattle.heesch_grid.specs.declared.Cell.{Cell}
use Rattle.heesch_grid.specs.Cells.{has, IsCellListOf}
use Rattle.heesch_grid.specs.Vectors.{IsWithin}
use Rattle.heesch_grid.specs.Geometry.{Geometry, image}
use Rattle.heesch_orbit.specs.Steps.{turn_alone}

-- the first of the lists
abbrev pub first_of : List (List Cell) → List Cell
first_of [] = []
first_of (cells ∷ rest) = cells

-- the lists are the cell lists of the set under the first so many turns, in order, and the set lies near 0
pub record AreImages (g : Geometry) (shape : List Cell) (count : ℕ) (images : List (List Cell)) : Type 0 where
  pub all : length images ≡ count
  pub each : (k : ℕ) (d : List Cell) → k < count → IsCellListOf (image g (turn_alone k) shape) (slice_index_or images k d)
  pub some : 0 < length shape
  pub near : (c : Cell) → has shape c ≡ true → IsWithin 100000 c

-- the lists are those of the set under all turns
abbrev pub AreTurned : Geometry → List Cell → List (List Cell) → Type 0
AreTurned g shape images = AreImages g shape g.turns images
