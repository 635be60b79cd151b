use Rattle.heesch_region.proofs.Rows.{clear_more}
use Rattle.heesch_region.proofs.bits.are_clear.Goals as goal

pub loop-k-preserved : goal.loop-k-preserved
loop-k-preserved c =
    clear_more c.args.words.now c.args.taken.now c.args.from c.loop-k.k (c.type_inv.taken c.loop-k.k).fits c.if-words-k-ne0.false c.loop-k.invariant
