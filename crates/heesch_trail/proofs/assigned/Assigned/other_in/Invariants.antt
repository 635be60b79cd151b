use Rattle.std.proofs.Common.{◌≡◌, ◌≢◌, Some, false, take, All}
use Rattle.heesch_cnf.specs.Literals.{lit_value}
use Rattle.heesch_trail.specs.State.{values_of}
use Rattle.heesch_trail.proofs.assigned.Assigned.other_in.Given as goal

abbrev pub invariant-loop-other : goal.invariant-loop-other
invariant-loop-other l = All (λ x. x ≢ l.lit → lit_value (values_of l.self.steps) x ≡ Some false) (take l.other-index l.clause)
