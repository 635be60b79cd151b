use Rattle.std.proofs.Common.{◌+◌, ◌++◌, List, sym, subst, take, arith}
use Rattle.std.proofs.lemmas.List.{append-nil}
use Rattle.heesch_cnf.specs.declared.literal.Lit.{Lit}
use Rattle.heesch_cnf.specs.declared.values.Left.{Left}
use Rattle.heesch_cnf.specs.Literals.{held}
use Rattle.heesch_encode.specs.Literals.{plus_all}
use Rattle.heesch_numbers.specs.Seen.{IsSeen}
use Rattle.heesch_numbers.proofs.Seeing.{plus_joins, walk_more, walk_stopped, walk_whole}
use Rattle.heesch_numbers.proofs.seen.left_with_all.Goals as goal
use Rattle.heesch_numbers.proofs.seen.left_with_all.Goals.{After-left_with-now}

pub loop-var-init : goal.loop-var-init
loop-var-init c = λ seen h. subst (λ ls. IsSeen (held c.args.values.now) ls c.args.left) (sym (append-nil seen)) h

-- after one number more
more : (c : After-left_with-now) (seen : List Lit) → IsSeen (held c.args.values.now) seen c.args.left → IsSeen (held c.args.values.now) (seen ++ plus_all (take (c.loop-var.var-index + 1) c.args.numbers.now)) c.left_with-now.result
more c seen h =
    let i = c.loop-var.var-index in
    walk_more plus_all plus_joins (held c.args.values.now) seen c.args.numbers.now i 0 c.left_with-now.result c.loop-var-test.true
    (c.left_with-now.ensures (seen ++ plus_all (take i c.args.numbers.now)) (c.loop-var.invariant seen h))

pub loop-var-preserved : goal.loop-var-preserved
loop-var-preserved c = λ seen h. more (goal.at.loop-var-preserved c).After-left_with-now seen h

pub returns-in-More : goal.returns-in-More
returns-in-More c = λ seen h.
    let v = held c.args.values.now in
    let i = c.loop-var.var-index in
    subst (λ (left : Left). IsSeen v (seen ++ plus_all c.args.numbers.now) left) (sym c.in-More.is)
    (walk_stopped plus_all plus_joins v seen c.args.numbers.now (i + 1)
    (subst (λ (left : Left). IsSeen v (seen ++ plus_all (take (i + 1) c.args.numbers.now)) left) c.in-More.is (more (goal.at.returns-in-More c).After-left_with-now seen h)))

pub returns : goal.returns
returns c = λ seen h. walk_whole plus_all plus_joins (held c.args.values.now) seen c.args.numbers.now c.loop-var.var-index c.loop-var.now (omega (arith, c.loop-var-test.false)) (c.loop-var.invariant seen h)
