use Rattle.heesch_tiling.proofs.Steps.{cells_near}
use Rattle.heesch_tiling.proofs.Tallies.{both_decides, both_fails}
use Rattle.heesch_tiling.proofs.search.is_turned_cover.Goals as goal

pub mark_tile-requires-clause-cells : goal.mark_tile-requires-clause-cells
mark_tile-requires-clause-cells g c = cells_near g.G.Grid.geometry c.args.cells.now c.requires.form c.requires.near

pub returns-then-mark_tile-clause-covers : goal.returns-then-mark_tile-clause-covers
returns-then-mark_tile-clause-covers g c =
    both_decides g.G.Grid.geometry g.met.G.Grid.laws c.args.cells.now c.requires.form c.args.triple c.requires.triple c.args.v.a c.args.v.b c.args.base.now c.copy_from_slice.new.self c.copy_from_slice.ensures.after c.requires.base c.half_turned.result c.half_turned.ensures.is
    c.mark_tile.new.marks (c.mark_tile.ensures.marked c.if-mark_tile.true) c.is_full.result c.is_full.ensures

pub returns-else-mark_tile-clause-covers : goal.returns-else-mark_tile-clause-covers
returns-else-mark_tile-clause-covers g c =
    both_fails g.G.Grid.geometry g.met.G.Grid.laws c.args.cells.now c.requires.form c.args.triple c.requires.triple c.args.v.a c.args.v.b c.args.base.now c.copy_from_slice.new.self c.copy_from_slice.ensures.after c.requires.base c.half_turned.result c.half_turned.ensures.is
    (c.mark_tile.ensures.repeated c.if-mark_tile.false) c.mark_tile.result c.if-mark_tile.false
