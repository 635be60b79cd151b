use Rattle.std.proofs.Common.{◌≡◌, ◌∙◌, ◌+◌, Bool, sym, rules, true, false, true≢false}
use Rattle.std.specs.Prelude.{◌↔◌, IsTrue}
use Rattle.std.proofs.lemmas.Result.{IfOk-weaker}
use Rattle.heesch_audit.specs.Ends.{EndsCoronas}
use Rattle.heesch_logs.proofs.Equal.{refused}
use Rattle.heesch_outer.proofs.checking.is_ended_outer.Goals as goal

pub returns-then-not-has_cuts_up_to : goal.returns-then-not-has_cuts_up_to
returns-then-not-has_cuts_up_to g c =
    let fails : c.has_cuts_up_to.result ≡ false = search rules in
    refused (λ r. true≢false (sym (c.has_cuts_up_to.ensures.1 r.outer_cuts) ∙ fails))

pub returns : goal.returns
returns g c =
    let a = c.args in
    let holds : c.has_cuts_up_to.result ≡ true = search rules in
    IfOk-weaker c.ends_coronas.result (λ (yes : Bool). IsTrue yes ↔ EndsCoronas a.end g.G.Grid.geometry a.limits a.shape.now (a.h + 1) a.proof.now) _
    (λ yes h. ((λ t. record { ends = h.0 t; outer_cuts = c.has_cuts_up_to.ensures.0 holds }), (λ r. h.1 r.ends))) c.ends_coronas.ensures
