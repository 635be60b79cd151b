use Rattle.std.proofs.Common.{All, take}
use Rattle.heesch_cuts.specs.Parts.{IsReached, WentOn}
use Rattle.heesch_cuts.proofs.parts.Spread.reach_around.Given as goal

abbrev pub invariant-loop-i : goal.invariant-loop-i
invariant-loop-i g l =
    WentOn l.hole l.initial.self.reached.items l.initial.self.todo.items l.self.reached.items l.self.todo.items
    × All (IsReached l.hole l.self.reached.items) (take l.i (g.G.Grid.geometry.adjacent l.c))
