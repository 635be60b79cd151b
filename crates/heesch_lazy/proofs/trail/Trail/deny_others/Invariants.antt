use Rattle.std.proofs.Common.{◌≡◌}
use Rattle.heesch_lazy.proofs.trail.Trail.deny_others.Given as goal

abbrev pub invariant-loop-other : goal.invariant-loop-other
invariant-loop-other l = l.self ≡ l.fn.self
