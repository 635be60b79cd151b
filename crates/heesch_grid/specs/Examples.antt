-- Small shapes of the square grid, and what the definitions say of them.
use Rattle.std.specs.Prelude.{List, [], ◌∷◌, pos}
use Rattle.heesch_grid.specs.declared.Cell.{Cell}
use Rattle.heesch_grid.specs.Cells.{cell, origin}
use Rattle.heesch_grid.specs.Geometry.{Geometry}
use Rattle.heesch_grid.specs.Lattice.{Triple}
use Rattle.heesch_grid.specs.Polyform.{IsPolyform}
use Rattle.heesch_grid.specs.Hole.{IsHole}
use Rattle.heesch_grid.specs.Tiling.{TilesByTranslation}
use Rattle.heesch_grid.specs.Pattern.{grid_of}
use Rattle.heesch_grid.specs.Grids.{square as square_tables}

-- the grid of squares
abbrev pub square : Geometry
square = grid_of square_tables

-- the cells (1, 0) and (0, 1)
abbrev pub right : Cell
right = cell (pos 1) (pos 0)

abbrev pub up : Cell
up = cell (pos 0) (pos 1)

-- one square
abbrev pub single : List Cell
single = origin ∷ []

-- three squares round a corner
abbrev pub corner : List Cell
corner = origin ∷ right ∷ up ∷ []

-- two squares that share one corner alone
abbrev pub diagonal : List Cell
diagonal = origin ∷ cell (pos 1) (pos 1) ∷ []

-- the polyomino of seven cells with a hole
abbrev pub ring : List Cell
ring = origin ∷ right ∷ cell (pos 2) (pos 0) ∷ up ∷ cell (pos 2) (pos 1) ∷ cell (pos 0) (pos 2) ∷ cell (pos 1) (pos 2) ∷ []

-- the cell in its middle
abbrev pub middle : Cell
middle = cell (pos 1) (pos 1)

-- the triple (1, 1, 0), whose lattice has every unit
abbrev pub unit_triple : Triple
unit_triple = record { p = 1; q = 1; s = 0 }

-- what the definitions say of them
pub record AreAsExpected : Type 0 where
  pub corner_is_polyform : IsPolyform square corner
  pub diagonal_is_none : ¬ IsPolyform square diagonal
  pub ring_has_hole : IsHole square ring (middle ∷ [])
  pub single_tiles : TilesByTranslation square single unit_triple
