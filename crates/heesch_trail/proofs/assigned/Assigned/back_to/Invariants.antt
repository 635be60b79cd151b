use Rattle.std.proofs.Common.{◌≡◌, ◌≤◌, length}
use Rattle.heesch_trail.specs.State.{IsTrail, up_to, level_of}
use Rattle.heesch_trail.proofs.assigned.Assigned.back_to.Given as goal

abbrev pub invariant-loop-self : goal.invariant-loop-self
invariant-loop-self l = record {
  valid : IsTrail l.self;
  same : l.self ≡ record l.fn.self { steps = l.self.steps };
  kept : up_to l.level l.self.steps ≡ up_to l.level l.fn.self.steps;
  high : l.level ≤ level_of l.self.steps;
}

abbrev pub decreases-loop-self : goal.decreases-loop-self
decreases-loop-self l = length l.self.steps
