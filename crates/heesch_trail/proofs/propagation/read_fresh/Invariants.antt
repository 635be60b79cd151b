use Rattle.std.proofs.Common.{◌-◌, ◌≤◌, length}
use Rattle.heesch_trail.specs.Seen.{GoesOn, StaySeen}
use Rattle.heesch_trail.proofs.propagation.read_fresh.Given as goal

abbrev pub invariant-loop-fresh : goal.invariant-loop-fresh
invariant-loop-fresh l = record {
  goes_on : GoesOn l.fn.assigned l.fn.watches l.assigned l.watches;
  read : l.fresh ≤ length l.assigned.clauses;
  seen : StaySeen l.fn.assigned l.fn.watches l.fn.fresh l.assigned l.watches l.fresh;
}

abbrev pub decreases-loop-fresh : goal.decreases-loop-fresh
decreases-loop-fresh l = length l.assigned.clauses - l.fresh
