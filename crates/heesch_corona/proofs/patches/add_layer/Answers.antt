use Rattle.std.proofs.Common.{pos}
use Rattle.heesch_corona.proofs.Added.{added_more}
use Rattle.heesch_corona.proofs.patches.add_layer.Goals as goal

pub loop-by-preserved : goal.loop-by-preserved
loop-by-preserved g c =
    added_more g.G.Grid.geometry c.args.shape.now c.args.layer.now c.loop-by.by-index (record { turn = 0; da = pos 0; db = pos 0 }) c.args.index.now c.loop-by.index c.add_tile.new.index c.loop-by-test.true c.loop-by.invariant c.in_ok-add_tile.ensures
