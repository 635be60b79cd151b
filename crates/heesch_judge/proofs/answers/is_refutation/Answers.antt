use Rattle.std.proofs.Common.{◌≡◌, ◌∙◌, true, false, rules, sym, true≢false}
use Rattle.std.proofs.lemmas.Result.{IfOk-weaker}
use Rattle.heesch_logs.proofs.Equal.{refused}
use Rattle.heesch_judge.proofs.answers.is_refutation.Goals as goal

pub returns-then-not-named : goal.returns-then-not-named
returns-then-not-named g c =
    let fails : c.in_ok-named.named ≡ false = search rules in
    refused (λ r. true≢false (sym (c.in_ok-named.ensures.1 r.at_once) ∙ fails))

pub returns : goal.returns
returns g c =
    let holds : c.in_ok-named.named ≡ true = search rules in
    IfOk-weaker c.refutes_up_to.result _ _
    (λ told judged. ((λ t. record { refutation = judged.0 t; at_once = c.in_ok-named.ensures.0 holds }), (λ r. judged.1 r.refutation)))
    c.refutes_up_to.ensures.judged
