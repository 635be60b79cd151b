use Rattle.std.proofs.Common.{◌≡◌, true, take}
use Rattle.std.specs.List.{list_all}
use Rattle.heesch_cuts.specs.Enclosing.{are_held}
use Rattle.heesch_cuts.proofs.checking.is_enclosed.Given as goal

abbrev pub invariant-loop-c : goal.invariant-loop-c
invariant-loop-c g l = list_all (are_held g.G.Grid.geometry l.shape l.universe.vars l.level l.hole l.marks) (take l.c-index l.hole) ≡ true
