use Rattle.std.proofs.Common.{◌≡◌, true, take}
use Rattle.std.specs.List.{list_all}
use Rattle.heesch_cuts.specs.Enclosing.{is_held}
use Rattle.heesch_cuts.proofs.checking.are_held.Given as goal

abbrev pub invariant-loop-i : goal.invariant-loop-i
invariant-loop-i g l = list_all (is_held l.shape l.universe.vars l.level l.hole l.marks) (take l.i (g.G.Grid.geometry.adjacent l.c)) ≡ true
