use Rattle.std.proofs.Common.{◌≡◌, ◌<◌, List, not, filter, length, get_or, sym, ap, ◌∙◌, arith}
use Rattle.heesch_grid.specs.declared.Cell.{Cell}
use Rattle.heesch_grid.specs.Cells.{has, origin}
use Rattle.heesch_numbers.specs.Moves.{moved_by}
use Rattle.heesch_numbers.proofs.Passing.{kept_at, count_kept, count_passed, count_whole}
use Rattle.heesch_numbers.proofs.surround.cell_outside.Goals as goal
use Rattle.heesch_numbers.proofs.surround.cell_outside.Goals.{then-not-has+else-passed-place, else-not-has}

pub returns-then-passed-place : goal.returns-then-passed-place
returns-then-passed-place g c = λ d.
    let shape = c.args.shape.now in
    let cells : List Cell = moved_by c.args.cells.now.step c.args.cells.now.ring.now in
    let i = c.loop-i.i in
    let less : i < length cells = omega (arith, c.loop-i-test.true, c.len-i-end.ensures.count) in
    let p = λ (d : Cell). not (has shape d) in
    let tested : not c.has.result ≡ p (get_or cells i d) = ap not (c.has.ensures ∙ ap (has shape) (c.at-c.ensures d)) in
    c.at-c.ensures d ∙ sym (kept_at p cells i d less (sym tested ∙ ap not c.if-not-has.true)) ∙ ap (λ k. get_or (filter p cells) k d) (sym c.loop-i.invariant.count ∙ c.if-passed-place.true)

pub loop-i-preserved : goal.loop-i-preserved
loop-i-preserved g c =
    let shape = c.args.shape.now in
    let cells : List Cell = moved_by c.args.cells.now.step c.args.cells.now.ring.now in
    let i = c.loop-i.i in
    let less : i < length cells = omega (arith, c.loop-i-test.true, c.len-i-end.ensures.count) in
    let p = λ (d : Cell). not (has shape d) in
    let tested : not c.has.result ≡ p (get_or cells i origin) = ap not (c.has.ensures ∙ ap (has shape) (c.at-c.ensures origin)) in
    let count = c.loop-i.invariant.count in
    let few = c.loop-i.invariant.few in
    elim c.if-not-has.branch [
      | then-not-has+else-passed-place w ↦
          let e = w.passed-is in
          let other = w.if-passed-place.false in
          let more = count_kept p cells i origin less (sym tested ∙ ap not w.if-not-has.true) in
          record { count = omega (arith, e, count, more); few = omega (arith, e, few, other) }
      | else-not-has w ↦ let e = w.passed-is in let more = count_passed p cells i origin less (sym tested ∙ ap not w.if-not-has.false) in record { count = omega (arith, e, count, more); few = omega (arith, e, few) }
    ]

pub unreachable-requires : goal.unreachable-requires
unreachable-requires g c =
    let cells : List Cell = moved_by c.args.cells.now.step c.args.cells.now.ring.now in
    let all = count_whole (λ (d : Cell). not (has c.args.shape.now d)) cells c.loop-i.i (omega (arith, c.loop-i-test.false, c.len-i-end.ensures.count)) in
    let count = c.loop-i.invariant.count in
    let few = c.loop-i.invariant.few in
    let less = c.requires in
    omega (arith, all, count, few, less)
