use Rattle.std.proofs.Common.{◌≡◌, ◌++◌, map, take, drop}
use Rattle.std.specs.Prelude.{slice_index}
use Rattle.heesch_torus.proofs.steps.take_step.Given as goal

abbrev pub invariant-loop-i : goal.invariant-loop-i
invariant-loop-i l = l.points ≡ map (slice_index l.step) (take l.i l.fn.points) ++ drop l.i l.fn.points
