use Rattle.std.proofs.Common.{arith}
use Rattle.heesch_index.proofs.EntryFacts.{removed_more}
use Rattle.heesch_index.proofs.entries.leave.Goals as goal

pub loop-cell-preserved : goal.loop-cell-preserved
loop-cell-preserved c = λ q. removed_more c.args.cells.now c.loop-cell.cell-index _ q c.requires (omega arith) _ _ _ (c.loop-cell.invariant q) (c.leave_at.ensures q)
