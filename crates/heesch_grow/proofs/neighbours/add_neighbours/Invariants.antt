use Rattle.std.proofs.Common.{◌+◌, ◌≤◌, length}
use Rattle.heesch_grow.specs.Collects.{Collects}
use Rattle.heesch_grow.proofs.Beside.{IsNeighbourBelow}
use Rattle.heesch_grow.proofs.neighbours.add_neighbours.Given as goal

abbrev pub invariant-loop-i : goal.invariant-loop-i
invariant-loop-i g l =
    Collects g.G.Grid.geometry l.shape (IsNeighbourBelow g.G.Grid.geometry l.c l.i) l.fn.beside.items l.beside.items × (length l.beside.items ≤ length l.fn.beside.items + l.i)
