use Rattle.heesch_index.proofs.BoxFacts.{Span-more}
use Rattle.heesch_index.proofs.cell_box.Corners.with_all.Goals as goal

pub loop-cell-preserved : goal.loop-cell-preserved
loop-cell-preserved c =
    Span-more c.args.self.low c.args.self.high c.args.cells.now c.loop-cell.cell-index _ c.loop-cell.corners.low c.loop-cell.corners.high c.with-corners.result.low c.with-corners.result.high c.loop-cell-test.true c.loop-cell.invariant c.with-corners.ensures.low_a c.with-corners.ensures.low_b c.with-corners.ensures.high_a c.with-corners.ensures.high_b
