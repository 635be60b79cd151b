use Rattle.std.proofs.Common.{option_and_then, sym, ap, ◌∙◌, arith}
use Rattle.std.proofs.lemmas.List.{get_or_default}
use Rattle.heesch_trail.specs.declared.step.Step.{Step}
use Rattle.heesch_trail.specs.State.{State}
use Rattle.heesch_trail.specs.Inner.{reason_in}
use Rattle.heesch_trail.proofs.Held.{fact-read}
use Rattle.heesch_trail.proofs.assigned.Assigned.reason_of.Goals as goal

pub returns-in-None : goal.returns-in-None
returns-in-None c = sym (ap (option_and_then (λ (x : Step). x.reason)) (fact-read c.self.inside.levels.items c.self.inside.reasons.items c.self.inside.made.items c.args.self.now.steps (ap (λ (s : State). s.steps) c.self.view_is) c.args.var _ (sym c.in-None.is ∙ c.value.ensures)))

pub returns-in-Some : goal.returns-in-Some
returns-in-Some c =
    c.reason_of_number.ensures ∙ ap reason_in (c.index.ensures ∙ get_or_default c.self.inside.reasons.items c.args.var c.index.result.now 0 (omega (arith, c.self.invariant.held.reason_room, ap (λ (s : State). s.vars) c.self.view_is, c.requires)))
    ∙ sym (ap (option_and_then (λ (x : Step). x.reason)) (fact-read c.self.inside.levels.items c.self.inside.reasons.items c.self.inside.made.items c.args.self.now.steps (ap (λ (s : State). s.steps) c.self.view_is) c.args.var _ (sym c.in-Some.is ∙ c.value.ensures)))
