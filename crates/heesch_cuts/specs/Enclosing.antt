-- When a cell beside a hole is held: by the hole, the shape or a marked placement.
use Rattle.std.specs.Prelude.{ℕ, ◌<◌, Bool, ◌||◌, List, length}
use Rattle.std.specs.List.{list_any, list_all}
use Rattle.heesch_grid.specs.declared.Cell.{Cell}
use Rattle.heesch_grid.specs.Cells.{has}
use Rattle.heesch_grid.specs.Geometry.{Geometry}
use Rattle.heesch_grid.specs.Polyform.{IsCellSet}
use Rattle.heesch_grid.specs.Placement.{Apart}
use Rattle.heesch_grid.specs.CoronaFormula.{Variable}
use Rattle.heesch_place.specs.Universes.{covering}
use Rattle.heesch_cuts.specs.Marks.{is_marked}

-- a set of cells of the grid that isn't empty, and of which none is in the shape
pub record IsOutside (g : Geometry) (shape hole : List Cell) : Type 0 where
  pub some : 0 < length hole
  pub is_set : IsCellSet g hole
  pub outside : Apart shape hole

-- whether a marked variable of level at most k has the cell
abbrev pub is_covered : List Variable → ℕ → List Bool → Cell → Bool
is_covered vars k marks d = list_any (is_marked marks) (covering vars k d)

-- whether the cell is in the hole, in the shape, or in a marked placement of level at most k
abbrev pub is_held : List Cell → List Variable → ℕ → List Cell → List Bool → Cell → Bool
is_held shape vars k hole marks d = has hole d || (has shape d || is_covered vars k marks d)

-- whether each cell beside this one is held
abbrev pub are_held : Geometry → List Cell → List Variable → ℕ → List Cell → List Bool → Cell → Bool
are_held g shape vars k hole marks c = list_all (is_held shape vars k hole marks) (g.adjacent c)
