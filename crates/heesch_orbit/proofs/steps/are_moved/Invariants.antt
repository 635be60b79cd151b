use Rattle.std.proofs.Common.{◌≡◌, map, take}
use Rattle.heesch_grid.specs.Vectors.{plus}
use Rattle.heesch_orbit.proofs.steps.are_moved.Given as goal

abbrev pub invariant-loop-i : goal.invariant-loop-i
invariant-loop-i l = map (plus l.v) (take l.i l.from) ≡ take l.i l.to
