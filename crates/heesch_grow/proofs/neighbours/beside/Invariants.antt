use Rattle.std.proofs.Common.{◌*◌, ◌≤◌, [], length, take}
use Rattle.heesch_shape.specs.Reach.{IsNextTo}
use Rattle.heesch_grow.specs.Collects.{Collects}
use Rattle.heesch_grow.proofs.neighbours.beside.Given as goal

abbrev pub invariant-loop-c : goal.invariant-loop-c
invariant-loop-c g l =
    Collects g.G.Grid.geometry l.shape (IsNextTo g.G.Grid.geometry (take l.c-index l.shape)) [] l.beside.items × (length l.beside.items ≤ 12 * l.c-index)
