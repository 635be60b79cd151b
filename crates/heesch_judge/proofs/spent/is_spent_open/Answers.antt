use Rattle.std.proofs.Common.{◌≡◌, ◌∙◌, false, true, rules, sym, true≢false}
use Rattle.std.proofs.lemmas.Result.{IfOk-weaker}
use Rattle.heesch_logs.proofs.Equal.{refused}
use Rattle.heesch_judge.proofs.Settled.{lines_form}
use Rattle.heesch_judge.proofs.spent.is_spent_open.Goals as goal

pub returns-then-not-spent : goal.returns-then-not-spent
returns-then-not-spent g c =
    let fails : c.in_ok-spent.spent ≡ false = search rules in
    refused (λ r. true≢false (sym (c.in_ok-spent.ensures.1 r.is_spent) ∙ fails))

pub ends_open-requires : goal.ends_open-requires
ends_open-requires g c =
    let f = g.N.ClauseSource.listed c.args.formula.now in
    let holds : c.in_ok-spent.spent ≡ true = search rules in
    record { form = lines_form f.vars f.clauses (g.S.Steps.written c.args.steps.now).lines (c.in_ok-spent.ensures.0 holds).lines }

pub returns : goal.returns
returns g c =
    let holds : c.in_ok-spent.spent ≡ true = search rules in
    IfOk-weaker c.ends_open.result _ _
    (λ told ends. ((λ t. record { is_spent = c.in_ok-spent.ensures.0 holds; open_still = ends.0 t }), (λ r. ends.1 r.open_still)))
    c.ends_open.ensures
