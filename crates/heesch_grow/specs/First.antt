-- The polyforms of one cell.
use Rattle.std.specs.Prelude.{List, [], ◌∷◌}
use Rattle.heesch_grid.specs.declared.Cell.{Cell}
use Rattle.heesch_grid.specs.Geometry.{Geometry, IsGrid}
use Rattle.heesch_grid.specs.Polyform.{IsFreePolyform, IsFreeList}

-- a free polyform of one cell is alone in the free list of that size
abbrev pub FirstIsFreeList : Type 0
FirstIsFreeList = (g : Geometry) (first : List Cell) → IsGrid g → IsFreePolyform g 1 first → IsFreeList g 1 (first ∷ [])
