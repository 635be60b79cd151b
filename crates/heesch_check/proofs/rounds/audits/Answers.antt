use Rattle.std.proofs.Common.{◌≡◌, ◌-◌, ◌*◌, length, ap, arith}
use Rattle.std.proofs.lemmas.Result.{IfOk-at_ok}
use Rattle.heesch_check.proofs.Audits.{if_both}
use Rattle.heesch_check.proofs.Portions.{audits_from}
use Rattle.heesch_check.proofs.rounds.audits.Goals as goal

pub returns-in-Ok-clause-audits : goal.returns-in-Ok-clause-audits
returns-in-Ok-clause-audits g c =
    let count = c.args.until - c.args.from in
    let portions = c.portions_of_each-portions.result in
    let answers = c.in-Ok.answers in
    let some = c.portions_of_each-portions.ensures.some in
    let long = IfOk-at_ok _ c.in-Ok.is c.run_span_behind-answers.ensures.len in
    let each_answers = IfOk-at_ok _ c.in-Ok.is c.run_span_behind-answers.ensures.answers in
    let many : length answers.items ≡ count * portions = omega (arith, long, answers.ok.0) in
    let work = c.new-job.result.work in
    let is = c.new-job.ensures.0 in
    if_both c.joined.result
    (λ audits len each.
    audits_from g.G.Grid.geometry c.args.limits work.limits c.args.items.now work.items.now work.first c.args.from count work.count portions work.portions answers.items audits.items (ap (λ w. w.limits) is) (ap (λ w. w.items.now) is) (ap (λ w. w.first) is) (ap (λ w. w.count) is) (ap (λ w. w.portions) is) some
    many each_answers (omega (arith, len, audits.ok.0)) (rw c.deref.ensures.value at each))
    c.joined.ensures.len c.joined.ensures.each
