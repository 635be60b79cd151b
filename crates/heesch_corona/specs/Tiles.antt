-- The tiles of layers by their numbers, and the patches that they build.
use Rattle.std.specs.Prelude.{ℕ, ◌<◌, List, [], ◌∷◌, take, flat_map, slice_index_or}
use Rattle.std.specs.List.{AllZip}
use Rattle.heesch_grid.specs.declared.Cell.{Cell}
use Rattle.heesch_grid.specs.declared.isometries.Iso.{Iso}
use Rattle.heesch_grid.specs.Cells.{cell, IsCellListOf}
use Rattle.heesch_grid.specs.Geometry.{Geometry, image}
use Rattle.heesch_grid.specs.Vectors.{IsWithin}

-- the isometry's turn is one of the grid's, and its translation lies within 100,000
abbrev pub IsInRange : Geometry → Iso → Type 0
IsInRange g by = (by.turn < g.turns) × IsWithin 100000 (cell by.da by.db)

-- place by place, the tiles of a layer are the cell lists of the images of the shape
abbrev pub IsLayerOf : Geometry → List Cell → List Iso → List (List Cell) → Type 0
IsLayerOf g shape layer tiles = AllZip (λ by tile. IsCellListOf (image g by shape) tile) layer tiles

-- and so the tiles of all layers
abbrev pub AreTilesOf : Geometry → List Cell → List (List Iso) → List (List (List Cell)) → Type 0
AreTilesOf g shape layers tiles = AllZip (IsLayerOf g shape) layers tiles

-- the shape, and then the tiles through the layers: so they are numbered, from 0
abbrev pub all_tiles : List Cell → List (List (List Cell)) → List (List Cell)
all_tiles shape tiles = shape ∷ flat_map (λ layer. layer) tiles

-- the tile of a number
abbrev pub tile_at : List Cell → List (List (List Cell)) → ℕ → List Cell
tile_at shape tiles i = slice_index_or (all_tiles shape tiles) i []

-- the patch of level k: the shape with the first k layers
abbrev pub patch_at : List Cell → List (List (List Cell)) → ℕ → List (List Cell)
patch_at shape tiles k = all_tiles shape (take k tiles)
