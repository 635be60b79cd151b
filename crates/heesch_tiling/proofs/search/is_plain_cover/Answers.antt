use Rattle.heesch_tiling.proofs.Steps.{cells_near}
use Rattle.heesch_tiling.proofs.Tallies.{alone_decides, alone_fails}
use Rattle.heesch_tiling.proofs.search.is_plain_cover.Goals as goal

pub mark_tile-requires-clause-cells : goal.mark_tile-requires-clause-cells
mark_tile-requires-clause-cells g c = cells_near g.G.Grid.geometry c.args.cells.now c.requires.form c.requires.near

pub returns-then-mark_tile : goal.returns-then-mark_tile
returns-then-mark_tile g c =
    alone_decides g.G.Grid.geometry g.met.G.Grid.laws c.args.cells.now c.requires.form c.args.triple c.window_size.ensures.triple.is_triple c.clear.new.marks c.mark_tile.new.marks c.clear.ensures (c.mark_tile.ensures.marked c.if-mark_tile.true) c.is_full.result c.is_full.ensures

pub returns-else-mark_tile : goal.returns-else-mark_tile
returns-else-mark_tile g c =
    alone_fails g.G.Grid.geometry g.met.G.Grid.laws c.args.cells.now c.requires.form c.args.triple c.window_size.ensures.triple.is_triple c.clear.new.marks c.clear.ensures (c.mark_tile.ensures.repeated c.if-mark_tile.false) c.mark_tile.result c.if-mark_tile.false
