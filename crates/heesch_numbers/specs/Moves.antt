-- Moved cells.
use Rattle.std.specs.Prelude.{List, map}
use Rattle.heesch_grid.specs.declared.Cell.{Cell}
use Rattle.heesch_grid.specs.Vectors.{plus}

-- the cells, each moved by the step
abbrev pub moved_by : Cell → List Cell → List Cell
moved_by step cells = map (plus step) cells
