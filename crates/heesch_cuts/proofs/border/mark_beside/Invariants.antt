use Rattle.std.proofs.Common.{All, take}
use Rattle.heesch_cuts.specs.Patches.{AreChosen, Grows, IsBordered}
use Rattle.heesch_cuts.proofs.border.mark_beside.Given as goal

abbrev pub invariant-loop-i : goal.invariant-loop-i
invariant-loop-i g l =
    AreChosen l.patch.universe.now.vars l.patch.model.now l.patch.level l.marks
    × Grows l.initial.marks l.marks
    × All (IsBordered l.patch.shape.now l.patch.universe.now.vars l.patch.level l.patch.cells.now l.marks) (take l.i (g.G.Grid.geometry.adjacent l.c))
