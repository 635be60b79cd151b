-- Lists to which is added what other lists give, and where the placements of a level come from.
use Rattle.std.specs.Prelude.{◌≡◌, ℕ, ◌⊎◌, ◌<◌, List, pos, ◌*ℤ◌, Contains, map, length, slice_index_or, []}
use Rattle.heesch_grid.specs.declared.Cell.{Cell}
use Rattle.heesch_grid.specs.Cells.{cell, IsCellListOf}
use Rattle.heesch_grid.specs.Geometry.{Geometry}
use Rattle.heesch_grid.specs.Placement.{IsPlacement, Apart, Touch}
use Rattle.heesch_grid.specs.Vectors.{plus}

-- what has the new property had the old one, or has this one
pub record Joins {X : Type 0} (P old new : X → Type 0) : Type 0 where
  pub kept : (x : X) → old x → new x
  pub all : (x : X) → P x → new x
  pub only : (x : X) → new x → old x ⊎ P x

-- the new list has what the old one had, and what has the property, and nothing else
abbrev pub Adds : {X : Type 0} → (X → Type 0) → List X → List X → Type 0
Adds P old new = Joins P (Contains old) (Contains new)

-- some member of the list is related to x
pub record FromOne {X Y : Type 0} (R : Y → X → Type 0) (ys : List Y) (x : X) : Type 0 where
  pub source : Y
  pub inside : Contains ys source
  pub gives : R source x

-- the second list is the first, each cell moved by the same whole units
pub record IsMoved (g : Geometry) (from to : List Cell) : Type 0 where
  pub units : Cell
  pub is : to ≡ map (plus (cell (pos g.unit *ℤ units.a) (pos g.unit *ℤ units.b))) from

-- the lists are the cell lists of the shape under each turn
pub record AreTurned (g : Geometry) (shape : List Cell) (lists : List (List Cell)) : Type 0 where
  pub long : length lists ≡ g.turns
  pub each : (k : ℕ) → k < g.turns → IsCellListOf (map (g.turn k) shape) (slice_index_or lists k [])

-- the tile is a placement, apart from the shape and not touching it, that touches one of the inner tiles
pub record IsBeyond (g : Geometry) (shape : List Cell) (inner : List (List Cell)) (tile : List Cell) : Type 0 where
  pub placement : IsPlacement g shape tile
  pub apart : Apart shape tile
  pub clear : ¬ Touch g shape tile
  pub touched : FromOne (Touch g) inner tile
