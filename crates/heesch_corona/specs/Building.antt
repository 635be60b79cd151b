-- What is built from a shape and layers of isometries.
use Rattle.std.specs.Prelude.{◌≡◌, ℕ, ◌+◌, ◌≤◌, List, [], ◌∷◌, ◌++◌, length, All, slice_index, true, pos, ◌≤ℤ◌, ◌+ℤ◌}
use Rattle.heesch_grid.specs.declared.Cell.{Cell}
use Rattle.heesch_grid.specs.declared.isometries.Iso.{Iso}
use Rattle.heesch_grid.specs.Cells.{has, IsCellListOf}
use Rattle.heesch_grid.specs.Corona.{cells_of}
use Rattle.heesch_grid.specs.Geometry.{Geometry, image}
use Rattle.heesch_shape.specs.Walks.{IsShape}
use Rattle.heesch_corona.specs.Tiles.{IsLayerOf, AreTilesOf, all_tiles, patch_at}

-- one tile joined the sets: the one that the isometry gives
pub record IsAdded (g : Geometry) (shape : List Cell) (by : Iso) (old new : List (List Cell)) : Type 0 where
  pub tile : List Cell
  pub gives : IsCellListOf (image g by shape) tile
  pub is_shape : IsShape g tile
  pub is : new ≡ old ++ tile ∷ []

-- the tiles of a layer joined the sets
pub record AreAdded (g : Geometry) (shape : List Cell) (layer : List Iso) (old new : List (List Cell)) : Type 0 where
  pub tiles : List (List Cell)
  pub are_given : IsLayerOf g shape layer tiles
  pub are_shapes : All (IsShape g) tiles
  pub is : new ≡ old ++ tiles

-- the sets are the shape and all tiles, and the ends are the sizes of the patches
pub record ArePatches (shape : List Cell) (tiles : List (List (List Cell))) (sets : List (List Cell)) (ends : List ℕ) : Type 0 where
  pub all : sets ≡ all_tiles shape tiles
  pub levels : length ends ≡ length tiles + 1
  pub sizes : (k : ℕ) → k ≤ length tiles → slice_index ends k ≡ length (patch_at shape tiles k)

-- the sets and the ends come from layers of isometries
pub record IsBuilt (g : Geometry) (shape : List Cell) (layers : List (List Iso)) (sets : List (List Cell)) (ends : List ℕ) : Type 0 where
  pub tiles : List (List (List Cell))
  pub are_given : AreTilesOf g shape layers tiles
  pub are_shapes : All (IsShape g) sets
  pub are_patches : ArePatches shape tiles sets ends

-- any two cells of the sets differ by at most 4,096 in each coordinate
abbrev pub AreClose : List (List Cell) → Type 0
AreClose sets = (c d : Cell) → has (cells_of sets) c ≡ true → has (cells_of sets) d ≡ true → (d.a ≤ℤ (c.a +ℤ pos 4096)) × (d.b ≤ℤ (c.b +ℤ pos 4096))
