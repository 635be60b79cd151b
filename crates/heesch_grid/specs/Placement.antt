-- Placements of a polyform, and when they meet, are apart and touch.
-- They restate Kaplan's tiles: two tiles of a patch share no cell, and are neighbours where they share a point.
use Rattle.std.specs.Prelude.{◌≤◌, Bool, not, ◌&&◌, List, IsTrue, IsFalse}
use Rattle.std.specs.List.{list_any}
use Rattle.heesch_grid.specs.declared.Cell.{Cell}
use Rattle.heesch_grid.specs.declared.isometries.Iso.{Iso}
use Rattle.heesch_grid.specs.Cells.{meet, IsCellListOf}
use Rattle.heesch_grid.specs.Geometry.{Geometry, are_touching, IsIsometry, image}
use Rattle.heesch_grid.specs.Polyform.{IsImageOf}

-- the list is the cell list of an image of the shape
abbrev pub IsPlacement : Geometry → List Cell → List Cell → Type 0
IsPlacement g shape tile = IsImageOf g shape tile

-- the two sets share no cell
abbrev pub Apart : List Cell → List Cell → Type 0
Apart s t = IsFalse (meet s t)

-- whether the two are apart and a cell of one touches a cell of the other
abbrev pub touch : Geometry → List Cell → List Cell → Bool
touch g s t = not (meet s t) && list_any (λ c. list_any (are_touching g c) t) s

-- the two are apart and a cell of one touches a cell of the other
abbrev pub Touch : Geometry → List Cell → List Cell → Type 0
Touch g s t = IsTrue (touch g s t)

-- the isometry gives the placement, and none of a lesser turn does
pub record IsLeastIsometry (g : Geometry) (shape tile : List Cell) (by : Iso) : Type 0 where
  pub is_isometry : IsIsometry g by
  pub gives : IsCellListOf (image g by shape) tile
  pub least : (other : Iso) → IsIsometry g other → IsCellListOf (image g other shape) tile → by.turn ≤ other.turn
