use Rattle.std.proofs.Common.{◌<◌}
use Rattle.heesch_grid.specs.declared.isometries.Iso.{Iso}
use Rattle.heesch_grid.specs.Cells.{IsCellListOf}
use Rattle.heesch_grid.specs.Geometry.{image}
use Rattle.heesch_place.proofs.placement.Placement.onto.Given as goal

abbrev pub invariant-loop-k : goal.invariant-loop-k
invariant-loop-k g l =
    (other : Iso) → other.turn < l.k → IsCellListOf (image g.G.Grid.geometry other l.images) l.tile → ⊥
