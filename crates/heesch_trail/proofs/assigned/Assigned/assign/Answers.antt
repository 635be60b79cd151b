use Rattle.std.proofs.Common.{◌≡◌, ℕ, [], ◌∷◌, ◌++◌, List, set, sym, ap, subst, ◌∙◌, arith, rules}
use Rattle.heesch_cnf.specs.declared.literal.Lit.{Lit}
use Rattle.heesch_cnf.specs.Literals.{making}
use Rattle.heesch_cnf.specs.Flat.{code_of}
use Rattle.heesch_trail.specs.declared.step.Step.{Step}
use Rattle.heesch_trail.specs.declared.truth.Truth.TheVariants.{Yes, No}
use Rattle.heesch_trail.specs.State.{State, StepHolds}
use Rattle.heesch_trail.specs.Inner.{IsInner, steps_of}
use Rattle.heesch_trail.proofs.Held.{IsInner-push, steps-push, made_by-steps}
use Rattle.heesch_trail.proofs.assigned.Assigned.assign.Goals as goal

pub invariant_of-self-2 : goal.invariant_of-self-2
invariant_of-self-2 c =
    let t = c.self.inside in
    let s = c.args.step in
    let b = c.reason_number.result in
    let levels = set t.levels.items s.lit.var s.level in
    let reasons = set t.reasons.items s.lit.var b in
    let holds = subst (λ (st : State). StepHolds st.vars st.clauses st.steps s) (sym c.self.view_is) c.requires in
    let made : c.push.new.self.items ≡ t.made.items ++ s.lit ∷ [] = search rules in
    subst (IsInner t.formula.vars t.formula.clauses (set (set t.values.items c.code.result Yes) c.code-2.result No) levels reasons) (sym made)
    (subst (λ i. IsInner t.formula.vars t.formula.clauses (set (set t.values.items i Yes) c.code-2.result No) levels reasons (t.made.items ++ s.lit ∷ [])) (sym c.code.ensures)
    (subst (λ i. IsInner t.formula.vars t.formula.clauses (set (set t.values.items (code_of s.lit) Yes) i No) levels reasons (t.made.items ++ s.lit ∷ [])) (sym (c.code-2.ensures ∙ ap code_of c.opposite.ensures))
    (IsInner-push t.formula.vars t.formula.clauses t.values.items t.levels.items t.reasons.items t.made.items s b c.self.invariant holds c.reason_number.ensures)))

pub returns-clause-ok : goal.returns-clause-ok
returns-clause-ok c =
    let t = c.self.inside in
    let s = c.args.step in
    let b = c.reason_number.result in
    let inner = c.self.invariant in
    let holds = subst (λ (st : State). StepHolds st.vars st.clauses st.steps s) (sym c.self.view_is) c.requires in
    let high = holds.high in
    let made : c.push.new.self.items ≡ t.made.items ++ s.lit ∷ [] = search rules in
    let steps = ap (steps_of (set t.levels.items s.lit.var s.level) (set t.reasons.items s.lit.var b)) made
    ∙ steps-push t.levels.items t.reasons.items t.made.items s b (ap (λ ls. making ls s.lit.var) (sym (made_by-steps t.levels.items t.reasons.items t.made.items)) ∙ holds.was_open)
    (omega (arith, inner.held.level_room, high)) (omega (arith, inner.held.reason_room, high)) c.reason_number.ensures in
    ap (λ (ss : List Step). the_state t.formula.vars t.formula.clauses ss) steps
    ∙ ap (λ (st : State). the_state st.vars st.clauses (st.steps ++ s ∷ [])) c.self.view_is
  where
    the_state : ℕ → List (List Lit) → List Step → State
    the_state vars clauses steps = record { vars = vars; clauses = clauses; steps = steps }

pub returns-clause-valid : goal.returns-clause-valid
returns-clause-valid c = let inner = invariant_of-self-2 c in inner.valid
