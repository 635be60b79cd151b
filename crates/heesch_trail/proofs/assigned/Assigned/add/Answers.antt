use Rattle.std.proofs.Common.{sym, subst}
use Rattle.heesch_cnf.specs.Clauses.{IsClause}
use Rattle.heesch_cnf.specs.Flat.{Clauses}
use Rattle.heesch_trail.specs.State.{State}
use Rattle.heesch_trail.specs.Inner.{IsInner}
use Rattle.heesch_trail.proofs.Held.{IsInner-add}
use Rattle.heesch_trail.proofs.assigned.Assigned.add.Goals as goal

pub invariant_of-self-2 : goal.invariant_of-self-2
invariant_of-self-2 c =
    let t = c.self.inside in
    let form = subst (λ (st : State). IsClause st.vars c.args.clause.now) (sym c.self.view_is) c.requires.form in
    subst (λ (f : Clauses). IsInner f.vars f.clauses t.values.items t.levels.items t.reasons.items t.made.items) (sym c.in_ok-add.ensures.ok)
    (IsInner-add t.formula.vars t.formula.clauses t.values.items t.levels.items t.reasons.items t.made.items c.args.clause.now c.self.invariant form)

pub returns-clause-valid : goal.returns-clause-valid
returns-clause-valid c = let inner = invariant_of-self-2 c in inner.valid
