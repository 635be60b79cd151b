use Rattle.std.proofs.Common.{take}
use Rattle.heesch_grid.specs.Statements.{IsGrownFrom}
use Rattle.heesch_grow.specs.Adds.{Adds, IsChildOfSome}
use Rattle.heesch_grow.proofs.growing.add_children.Given as goal

abbrev pub invariant-loop-at : goal.invariant-loop-at
invariant-loop-at g l =
    Adds (IsGrownFrom g.G.Grid.geometry l.parent) (IsChildOfSome g.G.Grid.geometry l.parent (take l.at l.parent)) l.fn.all.items l.all.items
