-- The first cell of a list, and how far an isometry moves.
use Rattle.std.specs.Prelude.{◌≡◌, List, ◌∷◌, pos, ◌*ℤ◌}
use Rattle.heesch_grid.specs.declared.Cell.{Cell}
use Rattle.heesch_grid.specs.declared.isometries.Iso.{Iso}
use Rattle.heesch_grid.specs.Cells.{cell}
use Rattle.heesch_grid.specs.Geometry.{Geometry}

-- the list begins with the cell
pub record IsFirstOf (cells : List Cell) (c : Cell) : Type 0 where
  pub rest : List Cell
  pub is : cells ≡ c ∷ rest

-- how far the isometry moves, after its turn
abbrev pub step_of : Geometry → Iso → Cell
step_of g by = cell (pos g.unit *ℤ by.da) (pos g.unit *ℤ by.db)
