use Rattle.std.proofs.Common.{◌≤◌, ◌-◌, length}
use Rattle.heesch_cdcl.proofs.covers.end_of.Given as goal

abbrev pub invariant-loop-end : goal.invariant-loop-end
invariant-loop-end l = record { behind : l.from ≤ l.end; within : l.end ≤ length l.covers }

abbrev pub decreases-loop-end : goal.decreases-loop-end
decreases-loop-end l = length l.covers - l.end
