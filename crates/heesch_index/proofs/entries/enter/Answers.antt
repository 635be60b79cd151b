use Rattle.std.proofs.Common.{arith}
use Rattle.heesch_index.proofs.EntryFacts.{added_more, IsRising-take, on_ok}
use Rattle.heesch_index.proofs.entries.enter.Goals as goal

pub leave-requires : goal.leave-requires
leave-requires c = IsRising-take c.loop-i.i c.args.cells.now c.requires

pub loop-i-preserved : goal.loop-i-preserved
loop-i-preserved c = λ q. added_more c.args.cells.now c.loop-i.i _ q c.requires (omega arith) c.args.number _ _ _ (c.loop-i.invariant q) (on_ok c.enter_at.result c.if-is_err.ensures.value c.enter_at.ensures.ok q)
