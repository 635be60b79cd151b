use Rattle.std.proofs.Common.{pos}
use Rattle.heesch_grid.specs.Cells.{cell}
use Rattle.heesch_corona.proofs.Members.{item_within}
use Rattle.heesch_corona.proofs.touching.reaches.Goals as goal

pub is_beside-requires-clause-within : goal.is_beside-requires-clause-within
is_beside-requires-clause-within g c =
    item_within g.G.Grid.geometry c.args.index.now c.args.number c.loop-c.c-index (cell (pos 0) (pos 0)) c.cells-c-items.result.now c.requires.shapes c.requires.low c.requires.high c.cells-c-items.ensures c.loop-c-test.true
