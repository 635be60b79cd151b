use Rattle.std.proofs.Common.{◌∷◌, ◌++◌, ◌+◌, ◌≤◌, [], get_or, Some, is_some, sym, subst, ap, ◌∙◌}
use Rattle.heesch_cnf.specs.declared.literal.Lit.{Lit}
use Rattle.heesch_cnf.specs.Literals.{lit_value}
use Rattle.heesch_trail.specs.declared.step.Step.{Step}
use Rattle.heesch_trail.specs.Fixpoint.{HasTrue}
use Rattle.heesch_trail.specs.State.{State, StepHolds, values_of}
use Rattle.heesch_trail.proofs.Settled.{left_has, HasTrue-alone}
use Rattle.heesch_trail.proofs.Visits.{StepHolds-read, HasTrue-followed, none_of_value}
use Rattle.heesch_trail.proofs.propagation.follow.Goals as goal

pub value_of-requires : goal.value_of-requires
value_of-requires c =
    let t = c.args.assigned.now in
    let form = c.count.ensures.valid.clauses c.args.index [] c.requires.within in
    let range = left_has (λ (m : Lit). (1 ≤ m.var) × (m.var ≤ t.vars)) (values_of t.steps) (get_or t.clauses c.args.index []) c.args.lit form.in_range c.requires.alone in
    range.1

pub returns-then-is_some-clause-made : goal.returns-then-is_some-clause-made
returns-then-is_some-clause-made c =
    let t = c.args.assigned.now in
    HasTrue-alone (values_of t.steps) (get_or t.clauses c.args.index []) c.args.lit c.requires.alone (ap is_some (sym c.value_of.ensures) ∙ sym c.is_some.ensures ∙ c.if-is_some.true)

pub assign-requires : goal.assign-requires
assign-requires c =
    let t = c.args.assigned.now in
    let none = none_of_value (lit_value (values_of t.steps) c.args.lit) (ap is_some (sym c.value_of.ensures) ∙ sym c.is_some.ensures ∙ c.if-is_some.false) in
    subst (λ (l : Lit). StepHolds t.vars t.clauses t.steps (record { lit = l; level = c.level-level.result; reason = Some (c.args.index + 1) })) (sym c.lit.ensures)
    (subst (λ n. StepHolds t.vars t.clauses t.steps (record { lit = c.args.lit; level = n; reason = Some (c.args.index + 1) })) (sym c.level-level.ensures.level)
    (StepHolds-read t c.args.index c.args.lit c.count.ensures.valid c.requires.within (record { alone = c.requires.alone; is_open = none })))

pub returns-clause-made : goal.returns-clause-made
returns-clause-made c =
    let t = c.args.assigned.now in
    let s : Step = record { lit = c.args.lit; level = c.level-level.result; reason = Some (c.args.index + 1) } in
    let none = none_of_value (lit_value (values_of t.steps) c.args.lit) (ap is_some (sym c.value_of.ensures) ∙ sym c.is_some.ensures ∙ c.if-is_some.false) in
    let holds = StepHolds-read t c.args.index c.args.lit c.count.ensures.valid c.requires.within (record { alone = c.requires.alone; is_open = none }) in
    let same = ap (λ (l : Lit). let x : Step = record { lit = l; level = c.level-level.result; reason = Some (c.args.index + 1) } in record t { steps = t.steps ++ x ∷ [] }) c.lit.ensures in
    subst (λ (st : State). HasTrue (values_of st.steps) (get_or st.clauses c.args.index [])) (sym (c.in_ok-assign.ensures.ok ∙ same))
    (HasTrue-followed t.steps s (get_or t.clauses c.args.index []) holds.was_open c.requires.alone)
