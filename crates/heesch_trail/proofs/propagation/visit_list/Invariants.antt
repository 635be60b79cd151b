use Rattle.std.proofs.Common.{ℕ, ◌<◌, ◌-◌, length}
use Rattle.heesch_trail.specs.Watches.{list_of, index_at}
use Rattle.heesch_trail.specs.Seen.{GoesOn, IsPassed}
use Rattle.heesch_trail.proofs.propagation.visit_list.Given as goal

abbrev pub invariant-loop-place : goal.invariant-loop-place
invariant-loop-place l = record {
  goes_on : GoesOn l.fn.assigned l.fn.watches l.assigned l.watches;
  passed : (i : ℕ) → i < l.place → IsPassed l.assigned l.watches l.lit (index_at (list_of l.watches.lists l.lit) i);
}

abbrev pub decreases-loop-place : goal.decreases-loop-place
decreases-loop-place l = length (list_of l.watches.lists l.lit) - l.place
