use Rattle.std.proofs.Common.{◌≡◌, ◌∙◌, ◌≤◌, [], List, length, map, All, ap, subst}
use Rattle.std.proofs.lemmas.List.{take_all}
use Rattle.std.specs.Prelude.{Option, MatchOption}
use Rattle.heesch_cnf.specs.declared.literal.Lit.{Lit}
use Rattle.heesch_cnf.specs.declared.log.Log.{Log}
use Rattle.heesch_cert.specs.Proofs.{HasNoCut, log_of}
use Rattle.heesch_logs.specs.Admitted.{given_clause, IsAdmittedStep}
use Rattle.heesch_logs.proofs.LogLines.{all_more, lines_more, admitted_of_learnt, log_of_given, log_of_none}
use Rattle.heesch_logs.proofs.logs.admitted_log.Goals as goal

pub loop-step-preserved : goal.loop-step-preserved
loop-step-preserved g c =
    let u = c.args.universe.now in
    let steps = c.as_slice-step-items.result.now in
    let i = c.loop-step.step-index in
    let step = c.step-item.result in
    let clause = c.in-Some-2.clause in
    let Admitted = IsAdmittedStep g.G.Grid.geometry u c.args.free_levels in
    let found = subst (λ (o : Option (List Lit)). MatchOption o (¬ IsAdmittedStep g.G.Grid.geometry u c.args.free_levels step) (λ ls. IsAdmittedStep g.G.Grid.geometry u c.args.free_levels step × (ls ≡ given_clause u.vars step))) c.in-Some-2.is c.in_ok-clause.ensures in
    record {
      admitted = all_more Admitted (given_clause u.vars) steps i step c.loop-step-test.true c.step-item.is found.0 c.loop-step.invariant.admitted;
      same = lines_more Admitted (given_clause u.vars) steps i step c.loop-step-test.true c.step-item.is clause c.loop-step.given c.push.new.self found.1 c.loop-step.invariant.same c.in_ok-push.ensures.ok;
    }

pub returns-in-Some : goal.returns-in-Some
returns-in-Some g c =
    let u = c.args.universe.now in
    let proof = c.args.proof.now in
    let found = subst (λ (o : Option Log). MatchOption o (¬ HasNoCut proof) (λ l. HasNoCut proof × (l ≡ log_of [] proof))) c.in-Some.is c.learnt_log.ensures in
    (admitted_of_learnt g.G.Grid.geometry u c.args.free_levels proof.steps found.0, found.1 ∙ log_of_none u.vars proof found.0)

pub returns : goal.returns
returns g c =
    let u = c.args.universe.now in
    let proof = c.args.proof.now in
    let long : length c.as_slice-step-items.result.now ≤ c.loop-step.step-index = c.loop-step-test.false in
    let all = take_all c.loop-step.step-index c.as_slice-step-items.result.now long ∙ c.as_slice-step-items.ensures in
    (subst (All (IsAdmittedStep g.G.Grid.geometry u c.args.free_levels)) all c.loop-step.invariant.admitted, log_of_given u.vars proof c.loop-step.given (c.loop-step.invariant.same ∙ ap (map (given_clause u.vars)) all))
