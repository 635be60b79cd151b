use Rattle.std.proofs.Common.{rules}
use Rattle.heesch_pool.specs.Pool.{AnswersEach}
use Rattle.heesch_pool.proofs.Places.{answers_placed}
use Rattle.heesch_pool.proofs.crew.Crew.run_span_behind.Goals as goal

pub returns-in-Ok-pairs-clause-answers : goal.returns-in-Ok-pairs-clause-answers
returns-in-Ok-pairs-clause-answers g c =
    let pairs = c.in-Ok-pairs.pairs in
    let each : AnswersEach (λ i r. g.W.Answer.gives c.args.job.now.work i r) c.args.from pairs.items = search rules in
    answers_placed (λ i r. g.W.Answer.gives c.args.job.now.work i r) c.args.from pairs.items c.items_of.result each c.items_of.ensures.placed
