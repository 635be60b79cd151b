use Rattle.std.proofs.Common.{◌≡◌, take, option_to_list}
use Rattle.heesch_cnf.specs.Clauses.{left_of}
use Rattle.heesch_trail.specs.State.{values_of}
use Rattle.heesch_trail.proofs.assigned.Assigned.read_clause.Given as goal

abbrev pub invariant-loop-lit : goal.invariant-loop-lit
invariant-loop-lit l = left_of (values_of l.self.steps) (take l.lit-index l.clause) ≡ option_to_list l.left
