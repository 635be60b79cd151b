-- Holes of finite cell sets. A set is the members of a list, in whatever order.
-- The outside is joined over edges alone, so a gap at a single corner doesn't open a hole. Kaplan's Hc asks for patches without holes.
use Rattle.std.specs.Prelude.{◌<◌, ◌⊎◌, List, length, All, Contains}
use Rattle.heesch_grid.specs.declared.Cell.{Cell}
use Rattle.heesch_grid.specs.Listing.{ListsExactly}
use Rattle.heesch_grid.specs.Cells.{cell_before}
use Rattle.heesch_grid.specs.Geometry.{Geometry, IsCell, Adjacent}

-- the second set is a hole of the first: not empty, outside it, and each cell adjacent to a member is a member or in the first set
pub record IsHole (g : Geometry) (cells hole : List Cell) : Type 0 where
  pub some : 0 < length hole
  pub in_grid : All (IsCell g) hole
  pub outside : (c : Cell) → Contains hole c → ¬ Contains cells c
  pub enclosed : (c d : Cell) → Contains hole c → Adjacent g c d → Contains hole d ⊎ Contains cells d

-- no set is a hole
abbrev pub IsHoleFree : Geometry → List Cell → Type 0
IsHoleFree g cells = (hole : List Cell) → ¬ IsHole g cells hole

-- the cell is in some hole
pub record IsInHole (g : Geometry) (cells : List Cell) (c : Cell) : Type 0 where
  pub hole : List Cell
  pub is_hole : IsHole g cells hole
  pub member : Contains hole c

-- the union of all holes, in cell order
abbrev pub IsGreatestHole : Geometry → List Cell → List Cell → Type 0
IsGreatestHole g cells union = ListsExactly cell_before (IsInHole g cells) union
