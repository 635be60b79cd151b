use Rattle.std.proofs.Common.{ap}
use Rattle.heesch_trail.specs.State.{State}
use Rattle.heesch_trail.proofs.Held.{form-read}
use Rattle.heesch_trail.proofs.assigned.Assigned.other.Goals as goal

pub other_in-requires : goal.other_in-requires
other_in-requires c = record {
  form = form-read c.self.inside.formula.vars c.self.inside.formula.clauses c.args.self.now (ap (λ (s : State). s.vars) c.self.view_is) (ap (λ (s : State). s.clauses) c.self.view_is) c.self.invariant.valid.clauses c.args.index c.requires c.clause.result.now c.clause.ensures;
}
