use Rattle.std.proofs.Common.{◌≡◌, ◌<◌, length, subst, sym, arith}
use Rattle.heesch_corona.proofs.Meeting.{next_found, next_none}
use Rattle.heesch_corona.proofs.meetings.next_with.Goals as goal

pub returns-then-n-number : goal.returns-then-n-number
returns-then-n-number c =
    next_found c.args.index.now c.args.c c.args.number c.covering-n-items.result.now c.covering-n-items.ensures c.loop-n.n-index c.loop-n-test.true c.if-n-number.true c.loop-n.invariant

pub returns : goal.returns
returns c =
    let end : c.loop-n.n-index ≡ length c.covering-n-items.result.now = omega (arith, c.loop-n-test.false, c.loop-n.auto.n-index-end) in
    next_none c.args.index.now c.args.c c.args.number c.covering-n-items.result.now c.covering-n-items.ensures (λ k l. c.loop-n.invariant k (subst (λ m. k < m) (sym end) l))
