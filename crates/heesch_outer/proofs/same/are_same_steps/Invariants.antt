use Rattle.std.proofs.Common.{◌≡◌, take}
use Rattle.heesch_outer.proofs.same.are_same_steps.Given as goal

abbrev pub invariant-loop-i : goal.invariant-loop-i
invariant-loop-i l = take l.i l.steps ≡ take l.i l.others
