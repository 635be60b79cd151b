use Rattle.std.proofs.Common.{pos, sym, ◌∙◌, arith}
use Rattle.heesch_grid.specs.Cells.{cell}
use Rattle.heesch_shape.proofs.Merging.{less_step, greater_step, equal_step, left_done, right_done}
use Rattle.heesch_shape.proofs.contact.share_one.Goals as goal

pub returns-then-eq : goal.returns-then-eq
returns-then-eq c =
    let l = c.loop-i in
    equal_step c.args.left.now c.args.right.now l.i l.j (cell (pos 0) (pos 0)) (cell (pos 0) (pos 0)) c.requires.left c.requires.right c.loop-i-test.true c.if-j-right.true l.invariant.2 (sym c.eq.ensures ∙ c.if-eq.true)

pub loop-i-preserved-then-lt : goal.loop-i-preserved-then-lt
loop-i-preserved-then-lt c =
    let l = c.loop-i in
    (omega arith, omega arith, less_step c.args.left.now c.args.right.now l.i l.j (cell (pos 0) (pos 0)) (cell (pos 0) (pos 0)) c.requires.left c.requires.right c.loop-i-test.true c.if-j-right.true l.invariant.2 (sym c.lt.ensures ∙ c.if-lt.true))

pub loop-i-preserved : goal.loop-i-preserved
loop-i-preserved c =
    let l = c.loop-i in
    (omega arith, omega arith, greater_step c.args.left.now c.args.right.now l.i l.j (cell (pos 0) (pos 0)) (cell (pos 0) (pos 0)) c.requires.left c.requires.right c.loop-i-test.true c.if-j-right.true l.invariant.2 (sym c.eq.ensures ∙ c.if-eq.false) (sym c.lt.ensures ∙ c.if-lt.false))

pub returns-else-j-right : goal.returns-else-j-right
returns-else-j-right c =
    let l = c.loop-i in
    right_done c.args.left.now c.args.right.now l.i l.j (omega arith) l.invariant.2

pub returns-after-loop-i : goal.returns-after-loop-i
returns-after-loop-i c =
    let l = c.loop-i in
    left_done c.args.left.now c.args.right.now l.i l.j (omega arith) l.invariant.2
