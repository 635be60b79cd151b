use Rattle.std.proofs.Common.{◌≡◌, ◌∙◌, ap, false, length, rules, subst, sym, true}
use Rattle.std.proofs.lemmas.List.{with_items_is}
use Rattle.heesch_cnf.specs.Lines.{clauses_with}
use Rattle.heesch_cnf.specs.Literals.{held}
use Rattle.heesch_judge.specs.Propagation.{IsPropagated}
use Rattle.heesch_judge.proofs.Propagating.{conflict_from, propagated_from}
use Rattle.heesch_judge.proofs.propagation.propagated.Goals as goal

pub returns-then-not-propagate-clause-values : goal.returns-then-not-propagate-clause-values
returns-then-not-propagate-clause-values g c =
    let fails : c.propagate.result ≡ false = search rules in
    conflict_from (clauses_with (g.C.ClauseSource.listed c.args.formula.now).clauses (g.S.Steps.written c.args.steps.now).lines) (held c.deref_mut.result.now) (ap held c.deref_mut.ensures.value ∙ c.in_ok-values.ensures.open) (c.propagate.ensures.conflict fails)

pub returns-clause-values : goal.returns-clause-values
returns-clause-values g c =
    let clauses = clauses_with (g.C.ClauseSource.listed c.args.formula.now).clauses (g.S.Steps.written c.args.steps.now).lines in
    let holds : c.propagate.result ≡ true = search rules in
    let values = c.in_ok-values.values in
    let after = c.propagate.new.values in
    let long : length after ≡ values.len = c.propagate.auto.values ∙ ap length c.deref_mut.ensures.value ∙ sym values.ok.0 in
    subst (λ vs. IsPropagated clauses (held vs)) (sym (with_items_is values after long))
    (propagated_from clauses (held c.deref_mut.result.now) (held after) (ap held c.deref_mut.ensures.value ∙ c.in_ok-values.ensures.open) (c.propagate.ensures.fixpoint holds) (c.propagate.ensures.forced holds))
