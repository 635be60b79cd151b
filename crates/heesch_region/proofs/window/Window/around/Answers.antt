use Rattle.std.proofs.Common.{◌≡◌, length, take, pos, subst, ap, ◌∙◌, arith}
use Rattle.std.proofs.Math.Seq.{take-length}
use Rattle.heesch_grid.specs.declared.Cell.{Cell}
use Rattle.heesch_grid.specs.Cells.{cell}
use Rattle.heesch_region.proofs.Boxes.{IsSpan, has_at, span_more, span_start}
use Rattle.heesch_region.proofs.window.Window.around.Goals as goal

abbrev zero_cell : Cell
zero_cell = cell (pos 0) (pos 0)

pub loop-c-init : goal.loop-c-init
loop-c-init g c = span_start c.args.cells.now c.first_or_origin-first.result c.first_or_origin-first.ensures.near c.first_or_origin-first.ensures.first c.requires.together

pub loop-c-preserved : goal.loop-c-preserved
loop-c-preserved g c =
    let xs = c.args.cells.now in
    let i = c.loop-c.c-index in
    span_more xs i zero_cell c.loop-c.span.low c.loop-c.span.high c.with-span.result.low c.with-span.result.high c.requires.together c.loop-c-test.true (c.requires.near _ (has_at xs i zero_cell c.loop-c-test.true)) c.with-span.ensures.low_a c.with-span.ensures.low_b c.with-span.ensures.high_a c.with-span.ensures.high_b c.loop-c.invariant

pub returns-clause-inner : goal.returns-clause-inner
returns-clause-inner g c d h =
    let xs = c.args.cells.now in
    let end : c.loop-c.c-index ≡ length xs = omega (arith, c.loop-c-test.false, c.loop-c.auto.c-index-end) in
    let span : IsSpan xs xs c.loop-c.span.low c.loop-c.span.high = subst (λ ys. IsSpan xs ys c.loop-c.span.low c.loop-c.span.high) (ap (λ n. take n xs) end ∙ take-length xs) c.loop-c.invariant in
    c.between.ensures.inner d (record { a_from = span.a_from d h; a_to = span.a_to d h; b_from = span.b_from d h; b_to = span.b_to d h })
