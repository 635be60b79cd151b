-- The text of a shape and of a list of shapes.
use Rattle.std.specs.Prelude.{ℕ, List, ◌++◌, codes}
use Rattle.std.specs.List.{flat_map}
use Rattle.heesch_grid.specs.declared.Cell.{Cell}
use Rattle.heesch_text.specs.Fields.{cells_text}

-- a line: the cells, with single spaces between them, and a newline
abbrev pub shape_text : List Cell → List ℕ
shape_text cells = cells_text cells ++ codes "\n"

-- a line for each shape
abbrev pub list_text : List (List Cell) → List ℕ
list_text shapes = flat_map shape_text shapes
