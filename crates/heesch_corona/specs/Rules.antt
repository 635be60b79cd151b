-- What makes layers of tiles coronas, rule by rule over the numbered tiles.
use Rattle.std.specs.Prelude.{◌≡◌, ℕ, ◌+◌, ◌-◌, ◌<◌, ◌≤◌, ◌⊎◌, List, length, All, IsTrue, IsFalse, Contains}
use Rattle.heesch_grid.specs.declared.Cell.{Cell}
use Rattle.heesch_grid.specs.Cells.{cell_before, meet}
use Rattle.heesch_grid.specs.Geometry.{Geometry, IsAround}
use Rattle.heesch_grid.specs.Placement.{touch}
use Rattle.heesch_grid.specs.Corona.{cells_of}
use Rattle.heesch_grid.specs.Hole.{IsHoleFree}
use Rattle.heesch_corona.specs.Tiles.{all_tiles, tile_at, patch_at}

-- the tiles of these two numbers share a cell, the first number being the lesser
pub record DoMeet (shape : List Cell) (tiles : List (List (List Cell))) (pair : ℕ × ℕ) : Type 0 where
  pub order : pair.0 < pair.1
  pub to : pair.1 < length (all_tiles shape tiles)
  pub meets : IsTrue (meet (tile_at shape tiles pair.0) (tile_at shape tiles pair.1))

-- pairs by the first number, then by the second
abbrev pub PairBefore : ℕ × ℕ → ℕ × ℕ → Type 0
PairBefore x y = (x.0 < y.0) ⊎ ((x.0 ≡ y.0) × (x.1 < y.1))

-- the tile of this number stands in a layer, and touches no tile of the patch before that layer
pub record IsLoose (g : Geometry) (shape : List Cell) (tiles : List (List (List Cell))) (i : ℕ) : Type 0 where
  pub level : ℕ
  pub is_level : level < length tiles
  pub from : length (patch_at shape tiles level) ≤ i
  pub to : i < length (patch_at shape tiles (level + 1))
  pub loose : All (λ other. IsFalse (touch g (tile_at shape tiles i) other)) (patch_at shape tiles level)

-- the cell is one of those around the patch before this level, and lies in no tile up to the level
pub record IsUncovered (g : Geometry) (shape : List Cell) (tiles : List (List (List Cell))) (at : ℕ × Cell) : Type 0 where
  pub from : 1 ≤ at.0
  pub to : at.0 ≤ length tiles
  pub around : IsAround g (cells_of (patch_at shape tiles (at.0 - 1))) at.1
  pub uncovered : ¬ Contains (cells_of (patch_at shape tiles at.0)) at.1

-- by the level, then in cell order
abbrev pub GapBefore : ℕ × Cell → ℕ × Cell → Type 0
GapBefore x y = (x.0 < y.0) ⊎ ((x.0 ≡ y.0) × IsTrue (cell_before x.1 y.1))

-- no two tiles meet
abbrev pub NoneMeet : List Cell → List (List (List Cell)) → Type 0
NoneMeet shape tiles = (pair : ℕ × ℕ) → ¬ DoMeet shape tiles pair

-- each tile of a layer touches one of the patch before it
abbrev pub NoneLoose : Geometry → List Cell → List (List (List Cell)) → Type 0
NoneLoose g shape tiles = (i : ℕ) → ¬ IsLoose g shape tiles i

-- each cell around the patch before a level lies in a tile up to the level
abbrev pub NoneUncovered : Geometry → List Cell → List (List (List Cell)) → Type 0
NoneUncovered g shape tiles = (at : ℕ × Cell) → ¬ IsUncovered g shape tiles at

-- the patch of each level from 1 is hole-free
abbrev pub NoneHoled : Geometry → List Cell → List (List (List Cell)) → Type 0
NoneHoled g shape tiles = (k : ℕ) → 1 ≤ k → k ≤ length tiles → IsHoleFree g (cells_of (patch_at shape tiles k))

-- the first three rules hold
pub record AreRuled (g : Geometry) (shape : List Cell) (tiles : List (List (List Cell))) : Type 0 where
  pub none_meet : NoneMeet shape tiles
  pub none_loose : NoneLoose g shape tiles
  pub none_uncovered : NoneUncovered g shape tiles
