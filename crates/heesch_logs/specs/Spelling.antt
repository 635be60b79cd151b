-- How layers are spelled, isometry by isometry.
use Rattle.std.specs.Prelude.{◌≡◌, true, Option, Some, None, List, ◌++◌, option_to_list}
use Rattle.std.specs.List.{AllZip}
use Rattle.heesch_grid.specs.declared.Cell.{Cell}
use Rattle.heesch_grid.specs.declared.isometries.Iso.{Iso}
use Rattle.heesch_grid.specs.Cells.{cells_before, has}
use Rattle.heesch_grid.specs.Geometry.{Geometry}
use Rattle.heesch_grid.specs.Listing.{IsRising}
use Rattle.heesch_grid.specs.Placement.{IsLeastIsometry}
use Rattle.heesch_grid.specs.Vectors.{IsWithin}
use Rattle.heesch_shape.specs.Walks.{IsShape}
use Rattle.heesch_place.specs.Universes.{Placed}

-- the cells are a polyform's, and lie within 100,000 of 0
pub record IsNearShape (g : Geometry) (shape : List Cell) : Type 0 where
  pub is_shape : IsShape g shape
  pub near : (c : Cell) → has shape c ≡ true → IsWithin 100000 c

-- each isometry is the least of its tile, and the tiles rise after the last one, if there is one
pub record IsSpelledAfter (g : Geometry) (shape : List Cell) (last : Option (List Cell)) (layer : List Iso)
    : Type 0 where
  pub tiles : List (List Cell)
  pub least : AllZip (λ by tile. IsLeastIsometry g shape tile by) layer tiles
  pub rising : IsRising cells_before (option_to_list last ++ tiles)

-- the cell list of a placement, if there is one
abbrev pub tile_of : Option Placed → Option (List Cell)
tile_of None = None
tile_of (Some p) = Some p.tile
