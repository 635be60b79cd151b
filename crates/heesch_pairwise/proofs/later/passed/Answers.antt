use Rattle.std.proofs.Common.{◌≡◌, ◌<◌, get_or, length, subst, arith}
use Rattle.std.proofs.lemmas.List.{get_or_default, get_or_past}
use Rattle.heesch_pairwise.specs.Later.{ArePassed, no_number}
use Rattle.heesch_pairwise.proofs.Merging.{one_passed}
use Rattle.heesch_pairwise.proofs.later.passed.Goals as goal

pub loop-at-preserved : goal.loop-at-preserved
loop-at-preserved c = one_passed c.args.numbers.now c.args.n c.loop-at.at c.loop-at.invariant (omega arith) (omega arith)

pub returns-then-n-numbers-clause-next : goal.returns-then-n-numbers-clause-next
returns-then-n-numbers-clause-next c = let head = get_or_default c.args.numbers.now c.loop-at.at no_number 0 (omega arith) in omega arith

pub returns-clause-passed : goal.returns-clause-passed
returns-clause-passed c =
    let within = c.loop-at.invariant.within in
    let same : c.loop-at.at ≡ length c.args.numbers.now = omega arith in
    subst (λ k. ArePassed c.args.numbers.now k c.args.n) same c.loop-at.invariant

pub returns-clause-next : goal.returns-clause-next
returns-clause-next c = let head = get_or_past c.args.numbers.now (length c.args.numbers.now) no_number (omega arith) in omega arith
