use Rattle.std.proofs.Common.{get_or, pos}
use Rattle.heesch_grid.specs.Cells.{cell}
use Rattle.heesch_shape.proofs.Loops.{has_at}
use Rattle.heesch_place.proofs.Moving.{near_more}
use Rattle.heesch_place.proofs.forms.radius.Goals as goal

pub loop-c-preserved : goal.loop-c-preserved
loop-c-preserved c =
    let xs = c.args.cells.now in
    let i = c.loop-c.c-index in
    let zero = cell (pos 0) (pos 0) in
    record {
      within = near_more xs i zero c.loop-c.radius c.widened-radius.result c.loop-c-test.true c.loop-c.invariant.within c.widened-radius.ensures.more c.widened-radius.ensures.within;
      bound = λ n near. c.widened-radius.ensures.bound n (c.loop-c.invariant.bound n near) (near (get_or xs i zero) (has_at xs i zero c.loop-c-test.true));
    }
