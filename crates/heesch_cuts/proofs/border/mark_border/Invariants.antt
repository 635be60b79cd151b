use Rattle.std.proofs.Common.{All, take}
use Rattle.heesch_cuts.specs.Patches.{AreChosen, IsBordered}
use Rattle.heesch_cuts.proofs.border.mark_border.Given as goal

abbrev pub invariant-loop-c : goal.invariant-loop-c
invariant-loop-c g l =
    AreChosen l.patch.universe.now.vars l.patch.model.now l.patch.level l.marks
    × All (λ c. All (IsBordered l.patch.shape.now l.patch.universe.now.vars l.patch.level l.patch.cells.now l.marks) (g.G.Grid.geometry.adjacent c)) (take l.c-index l.hole)
