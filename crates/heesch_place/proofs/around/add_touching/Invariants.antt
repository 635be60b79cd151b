use Rattle.std.proofs.Common.{take, Contains}
use Rattle.heesch_place.specs.Found.{Adds}
use Rattle.heesch_place.proofs.around.add_touching.Given as goal

abbrev pub invariant-loop-i : goal.invariant-loop-i
invariant-loop-i g l = Adds (Contains (take l.i (g.G.Grid.geometry.touching l.c))) l.fn.all.items l.all.items
