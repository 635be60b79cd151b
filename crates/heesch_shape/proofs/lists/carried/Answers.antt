use Rattle.std.proofs.Common.{get_or, pos}
use Rattle.heesch_grid.specs.Cells.{cell}
use Rattle.heesch_shape.proofs.Loops.{has_at}
use Rattle.heesch_shape.proofs.lists.carried.Goals as goal

pub apply_far-requires-clause-image_within : goal.apply_far-requires-clause-image_within
apply_far-requires-clause-image_within g c =
    c.requires.images (get_or c.args.cells.now c.loop-c.c-index (cell (pos 0) (pos 0))) (has_at c.args.cells.now c.loop-c.c-index (cell (pos 0) (pos 0)) c.loop-c-test.true)
