use Rattle.std.proofs.Common.{◌≡◌, false, true, rules, subst}
use Rattle.heesch_cnf.specs.Lines.{clauses_with}
use Rattle.heesch_cnf.specs.Literals.{held}
use Rattle.heesch_judge.specs.Propagation.{Forces}
use Rattle.heesch_judge.proofs.Propagating.{conflict_then, forces_then}
use Rattle.heesch_judge.proofs.propagation.propagate.Goals as goal

pub passes-init : goal.passes-init
passes-init g c = λ others fixpoint extends. extends

pub returns-in_default-clause-conflict : goal.returns-in_default-clause-conflict
returns-in_default-clause-conflict g c = λ e.
    conflict_then (clauses_with (g.C.ClauseSource.listed c.args.formula.now).clauses (g.S.Steps.written c.args.steps.now).lines) (held c.args.values.now) (held c.passes.values) c.passes.invariant c.in_default.ensures

pub returns-then-not-grew-clause-fixpoint : goal.returns-then-not-grew-clause-fixpoint
returns-then-not-grew-clause-fixpoint g c = λ e.
    let still : c.in-Some.grew ≡ false = search rules in
    (c.in-Some.ensures.still still).1

pub returns-then-not-grew-clause-forced : goal.returns-then-not-grew-clause-forced
returns-then-not-grew-clause-forced g c = λ e.
    forces_then (clauses_with (g.C.ClauseSource.listed c.args.formula.now).clauses (g.S.Steps.written c.args.steps.now).lines) (held c.args.values.now) (held c.passes.values) (held c.pass.new.values) c.passes.invariant c.in-Some.ensures.forced

pub passes-preserved : goal.passes-preserved
passes-preserved g c =
    forces_then (clauses_with (g.C.ClauseSource.listed c.args.formula.now).clauses (g.S.Steps.written c.args.steps.now).lines) (held c.args.values.now) (held c.passes.values) (held c.pass.new.values) c.passes.invariant c.in-Some.ensures.forced

pub passes-smaller : goal.passes-smaller
passes-smaller g c =
    let grows : c.in-Some.grew ≡ true = search rules in
    c.in-Some.ensures.fewer grows
