use Rattle.std.proofs.Common.{◌≡◌, [], subst}
use Rattle.std.specs.Prelude.{Option, MatchOption}
use Rattle.std.proofs.lemmas.Result.{IfOk-weaker}
use Rattle.heesch_cnf.specs.declared.log.Log.{Log}
use Rattle.heesch_cert.specs.Proofs.{HasNoCut, log_of}
use Rattle.heesch_logs.proofs.Equal.{refused, through}
use Rattle.heesch_audit.proofs.Proofs.{settles}
use Rattle.heesch_audit.proofs.audited.Audited.is_settled.Goals as goal

pub returns-in_default : goal.returns-in_default
returns-in_default g c =
    let written = c.args.written.now in
    let cut = subst (λ (o : Option Log). MatchOption o (¬ HasNoCut written.proof) (λ l. HasNoCut written.proof × (l ≡ log_of [] written.proof))) c.in_default.is c.learnt_log.ensures in
    refused (λ s. cut s.no_cut)

pub returns : goal.returns
returns g c =
    let written = c.args.written.now in
    let is = subst (λ (o : Option Log). MatchOption o (¬ HasNoCut written.proof) (λ l. HasNoCut written.proof × (l ≡ log_of [] written.proof))) c.in-Some.is c.learnt_log.ensures in
    let both = settles g.G.Grid.geometry c.args.self.now.shape.now c.args.self.now.limits.turns written.triple written.proof c.in_ok-source.source.formula c.in_ok-source.ensures.formula c.in-Some.log is.0 is.1 c.end_of.result c.end_of.ensures in
    IfOk-weaker c.is_ended.result _ _ (λ yes h. through h both) c.is_ended.ensures
