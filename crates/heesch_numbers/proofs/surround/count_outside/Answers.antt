use Rattle.std.proofs.Common.{◌≡◌, ◌<◌, List, not, length, get_or, sym, ap, ◌∙◌, arith}
use Rattle.heesch_grid.specs.declared.Cell.{Cell}
use Rattle.heesch_grid.specs.Cells.{has, origin}
use Rattle.heesch_numbers.specs.Moves.{moved_by}
use Rattle.heesch_numbers.proofs.Passing.{count_kept, count_passed, count_whole}
use Rattle.heesch_numbers.proofs.surround.count_outside.Goals as goal
use Rattle.heesch_numbers.proofs.surround.count_outside.Goals.{then-not-has, else-not-has}

pub overflow_add-count : goal.overflow_add-count
overflow_add-count g c =
    let few = c.loop-i.invariant.few in
    let small = c.len-i-end.ensures.small in
    omega (arith, few, small, c.loop-i-test.true)

pub loop-i-preserved : goal.loop-i-preserved
loop-i-preserved g c =
    let shape = c.args.shape.now in
    let cells : List Cell = moved_by c.args.cells.now.step c.args.cells.now.ring.now in
    let i = c.loop-i.i in
    let less : i < length cells = omega (arith, c.loop-i-test.true, c.len-i-end.ensures.count) in
    let p = λ (d : Cell). not (has shape d) in
    let tested : not c.has.result ≡ p (get_or cells i origin) = ap not (c.has.ensures ∙ ap (has shape) (c.at.ensures origin)) in
    let count = c.loop-i.invariant.count in
    let few = c.loop-i.invariant.few in
    elim c.if-not-has.branch [
      | then-not-has w ↦ let e = w.count-is in let more = count_kept p cells i origin less (sym tested ∙ ap not w.if-not-has.true) in record { count = omega (arith, e, count, more); few = omega (arith, e, few) }
      | else-not-has w ↦ let e = w.count-is in let more = count_passed p cells i origin less (sym tested ∙ ap not w.if-not-has.false) in record { count = omega (arith, e, count, more); few = omega (arith, e, few) }
    ]

pub returns-clause-count : goal.returns-clause-count
returns-clause-count g c =
    let cells : List Cell = moved_by c.args.cells.now.step c.args.cells.now.ring.now in
    c.loop-i.invariant.count ∙ count_whole (λ (d : Cell). not (has c.args.shape.now d)) cells c.loop-i.i (omega (arith, c.loop-i-test.false, c.len-i-end.ensures.count))
