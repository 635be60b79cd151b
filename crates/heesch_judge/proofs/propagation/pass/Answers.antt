use Rattle.std.proofs.Common.{sym, subst}
use Rattle.heesch_cnf.specs.Clauses.{AreClauses}
use Rattle.heesch_cnf.specs.Lines.{clauses_of, clauses_with}
use Rattle.heesch_judge.proofs.Propagating.{both_apart, both_together, first_conflict, second_conflict, second_pass}
use Rattle.heesch_judge.proofs.propagation.pass.Goals as goal

pub pass_over_lines-requires-clause-form : goal.pass_over_lines-requires-clause-form
pass_over_lines-requires-clause-form g c = subst (λ n. AreClauses n (clauses_of (g.S.Steps.written c.args.steps.now).lines)) (sym c.vars.ensures.vars) c.requires.form

pub returns-in_default : goal.returns-in_default
returns-in_default g c =
    let xs = (g.C.ClauseSource.listed c.args.formula.now).clauses in
    let ys = clauses_of (g.S.Steps.written c.args.steps.now).lines in
    first_conflict (clauses_with xs (g.S.Steps.written c.args.steps.now).lines) ys xs (both_apart xs ys) c.args.values.now c.in_default.ensures

pub returns-in-None : goal.returns-in-None
returns-in-None g c =
    let xs = (g.C.ClauseSource.listed c.args.formula.now).clauses in
    let ys = clauses_of (g.S.Steps.written c.args.steps.now).lines in
    second_conflict (clauses_with xs (g.S.Steps.written c.args.steps.now).lines) ys xs (both_apart xs ys) c.args.values.now c.pass_over_lines.new.values c.in-Some.by_lines c.in-Some.ensures c.in-None.ensures

pub returns-in-Some-pass_over : goal.returns-in-Some-pass_over
returns-in-Some-pass_over g c =
    let xs = (g.C.ClauseSource.listed c.args.formula.now).clauses in
    let ys = clauses_of (g.S.Steps.written c.args.steps.now).lines in
    second_pass (clauses_with xs (g.S.Steps.written c.args.steps.now).lines) ys xs (both_apart xs ys) c.args.values.now c.pass_over_lines.new.values c.in-Some.by_lines c.in-Some.ensures (both_together xs ys) c.pass_over.new.values c.in-Some-pass_over.by_formula c.in-Some-pass_over.ensures
