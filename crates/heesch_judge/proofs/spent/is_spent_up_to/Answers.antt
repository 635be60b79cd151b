use Rattle.std.proofs.Common.{Option, subst, true≢false, sym}
use Rattle.std.specs.Prelude.{MatchOption}
use Rattle.std.proofs.lemmas.Result.{IfOk-weaker}
use Rattle.heesch_cnf.specs.declared.log.Log.{Log}
use Rattle.heesch_logs.specs.Admitted.{IsAdmitted, IsLogOf}
use Rattle.heesch_judge.proofs.Judging.{no_spent_proof, spent_told, spent_up_to}
use Rattle.heesch_judge.proofs.spent.is_spent_up_to.Goals as goal

pub returns-in_default : goal.returns-in_default
returns-in_default g c =
    let geometry = g.G.Grid.geometry in
    let u = c.universe.result.now in
    let k = c.args.free_levels in
    let proof = c.args.proof.now in
    let fails = subst (λ (o : Option Log). MatchOption o (¬ IsAdmitted geometry u k proof) (IsLogOf geometry u k proof)) c.in_default.is c.in_ok-log.ensures in
    record {
      judged = no_spent_proof geometry c.args.source.now u c.universe.ensures k proof c.args.turns fails;
      spent = λ t. absurd (true≢false (sym t));
    }

pub returns : goal.returns
returns g c =
    let geometry = g.G.Grid.geometry in
    let u = c.universe.result.now in
    let k = c.args.free_levels in
    let proof = c.args.proof.now in
    let s = c.args.source.now in
    let is = subst (λ (o : Option Log). MatchOption o (¬ IsAdmitted geometry u k proof) (IsLogOf geometry u k proof)) c.in-Some.is c.in_ok-log.ensures in
    let told = spent_told geometry s u c.universe.ensures k proof c.args.turns c.in-Some.log is in
    record {
      judged = IfOk-weaker c.is_spent_open.result _ _ (λ answer tells. told answer tells) c.is_spent_open.ensures;
      spent = IfOk-weaker c.is_spent_open.result _ _ (λ answer tells t. spent_up_to geometry c.args.shape.now s c.requires.source k proof c.args.turns ((told answer tells).0 t)) c.is_spent_open.ensures;
    }
