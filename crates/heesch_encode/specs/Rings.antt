-- The cells around a shape under each turn.
use Rattle.std.specs.Prelude.{◌≡◌, ℕ, ◌<◌, pos, List, length, slice_index_or, Contains}
use Rattle.heesch_grid.specs.declared.Cell.{Cell}
use Rattle.heesch_grid.specs.Cells.{cell_before, IsCellListOf}
use Rattle.heesch_grid.specs.Geometry.{Geometry, IsAround, image}
use Rattle.heesch_grid.specs.Listing.{ListsExactly}
use Rattle.heesch_grid.specs.Vectors.{IsWithin}
use Rattle.heesch_place.specs.Steps.{IsFirstOf}
use Rattle.heesch_encode.specs.declared.around.TurnedRing.{TurnedRing}

-- it lists the cells around the image under turn k, which begins with the first cell
pub record IsTurnedRing (g : Geometry) (shape : List Cell) (k : ℕ) (r : TurnedRing) : Type 0 where
  pub turned : List Cell
  pub list : IsCellListOf (image g (record { turn = k; da = pos 0; db = pos 0 }) shape) turned
  pub first : IsFirstOf turned r.first
  pub ring : ListsExactly cell_before (IsAround g turned) r.ring.items
  pub near : IsWithin 1000000 r.first
  pub within : (c : Cell) → Contains r.ring.items c → IsWithin 1000004 c

-- there is one for each turn, in their order
pub record AreRings (g : Geometry) (shape : List Cell) (rings : List TurnedRing) : Type 0 where
  pub count : length rings ≡ g.turns
  pub each : (k : ℕ) (d : TurnedRing) → k < length rings → IsTurnedRing g shape k (slice_index_or rings k d)
