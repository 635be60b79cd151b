use Rattle.std.proofs.Common.{length, not, true, false, sym, ap, arith}
use Rattle.std.proofs.lemmas.List.Sums.{position_or_len_is}
use Rattle.heesch_outer_check.proofs.rounds.leading.Goals as goal

pub returns-then-not-holds-clause-first : goal.returns-then-not-holds-clause-first
returns-then-not-holds-clause-first c =
    sym (position_or_len_is not c.args.answers.now c.loop-index.index false (omega (arith, c.loop-index-test.true)) (λ k lt. ap not (c.loop-index.invariant k false lt)) (λ lt. ap not c.if-not-holds.true))

pub returns-clause-first : goal.returns-clause-first
returns-clause-first c =
    let answers = c.args.answers.now in
    let past = c.loop-index-test.false in
    sym (position_or_len_is not answers (length answers) true (omega arith) (λ k lt. ap not (c.loop-index.invariant k true (omega (arith, lt, past)))) (λ lt. absurd (omega (arith, lt))))
