use Rattle.std.proofs.Common.{Option, subst, true≢false, sym}
use Rattle.std.specs.Prelude.{MatchOption}
use Rattle.std.proofs.lemmas.Result.{IfOk-weaker}
use Rattle.heesch_cnf.specs.declared.log.Log.{Log}
use Rattle.heesch_logs.specs.Admitted.{IsAdmitted, IsLogOf}
use Rattle.heesch_judge.proofs.Judging.{no_refutation, refutation_told, refutation_up_to}
use Rattle.heesch_judge.proofs.refuted.refutes_up_to.Goals as goal

pub returns-in_default : goal.returns-in_default
returns-in_default g c =
    let geometry = g.G.Grid.geometry in
    let u = c.universe.result.now in
    let k = c.args.free_levels in
    let proof = c.args.proof.now in
    let fails = subst (λ (o : Option Log). MatchOption o (¬ IsAdmitted geometry u k proof) (IsLogOf geometry u k proof)) c.in_default.is c.in_ok-log.ensures in
    record {
      judged = no_refutation geometry c.args.source.now u c.universe.ensures k proof fails;
      refutes = λ t. absurd (true≢false (sym t));
    }

pub returns : goal.returns
returns g c =
    let geometry = g.G.Grid.geometry in
    let u = c.universe.result.now in
    let k = c.args.free_levels in
    let proof = c.args.proof.now in
    let s = c.args.source.now in
    let is = subst (λ (o : Option Log). MatchOption o (¬ IsAdmitted geometry u k proof) (IsLogOf geometry u k proof)) c.in-Some.is c.in_ok-log.ensures in
    let told = refutation_told geometry s u c.universe.ensures k proof c.in-Some.log is in
    record {
      judged = IfOk-weaker c.refutes_anew.result _ _ (λ answer tells. told answer tells) c.refutes_anew.ensures;
      refutes = IfOk-weaker c.refutes_anew.result _ _ (λ answer tells t. refutation_up_to geometry c.args.shape.now s c.requires.source k proof ((told answer tells).0 t)) c.refutes_anew.ensures;
    }
