use Rattle.std.proofs.Common.{ap, arith}
use Rattle.heesch_outer_check.proofs.Judged.{answers_of_numbers, if_both}
use Rattle.heesch_outer_check.proofs.rounds.judged.Goals as goal

pub returns-clause-answers : goal.returns-clause-answers
returns-clause-answers g c =
    let a = c.args in
    let job = c.new-job.ensures.0 in
    if_both c.run_span.result
    (λ answers many each. answers_of_numbers a.header.now a.before a.blocks.now answers.items (omega (arith, many, answers.ok.0))
    (ap (λ w. w.header) job) (ap (λ w. w.blocks.now) job) (ap (λ w. w.first) job) each)
    c.run_span.ensures.len c.run_span.ensures.answers
