use Rattle.std.proofs.Common.{pos}
use Rattle.heesch_grid.specs.Cells.{cell}
use Rattle.heesch_shape.proofs.Loops.{has_at}
use Rattle.heesch_shape.proofs.contact.some_touch.Goals as goal

pub touches_one-requires-clause-cell : goal.touches_one-requires-clause-cell
touches_one-requires-clause-cell g c =
    c.requires.cells _ (has_at c.args.cells.now c.loop-c.c-index (cell (pos 0) (pos 0)) c.loop-c-test.true)

pub touches_one-requires-clause-within : goal.touches_one-requires-clause-within
touches_one-requires-clause-within g c =
    c.requires.within _ (has_at c.args.cells.now c.loop-c.c-index (cell (pos 0) (pos 0)) c.loop-c-test.true)
