use Rattle.std.proofs.Common.{◌-◌, ◌≤◌, length}
use Rattle.heesch_trail.specs.Seen.{GoesOn, AreSeen}
use Rattle.heesch_trail.proofs.propagation.drain.Given as goal

abbrev pub invariant-loop-head : goal.invariant-loop-head
invariant-loop-head l = record {
  goes_on : GoesOn l.fn.assigned l.fn.watches l.assigned l.watches;
  visited : l.head ≤ length l.assigned.steps;
  seen : AreSeen l.head l.assigned l.watches (length l.assigned.clauses);
}

abbrev pub decreases-loop-head : goal.decreases-loop-head
decreases-loop-head l = l.assigned.vars - l.head
