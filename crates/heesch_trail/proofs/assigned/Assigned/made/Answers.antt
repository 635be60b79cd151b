use Rattle.std.proofs.Common.{sym, ap, ◌∙◌}
use Rattle.heesch_trail.specs.State.{State, made_by}
use Rattle.heesch_trail.proofs.Held.{made_by-steps}
use Rattle.heesch_trail.proofs.assigned.Assigned.made.Goals as goal

pub returns-clause-made : goal.returns-clause-made
returns-clause-made c =
    let t = c.self.inside in
    c.deref.ensures.value ∙ sym (made_by-steps t.levels.items t.reasons.items t.made.items) ∙ ap (λ (s : State). made_by s.steps) c.self.view_is
