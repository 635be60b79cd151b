use Rattle.heesch_tiling.proofs.Steps.{cells_near}
use Rattle.heesch_tiling.proofs.Tallies.{first_never}
use Rattle.heesch_tiling.proofs.search.first_shift.Goals as goal

pub mark_tile-requires-clause-cells : goal.mark_tile-requires-clause-cells
mark_tile-requires-clause-cells g c = cells_near g.G.Grid.geometry c.args.cells.now c.requires.form c.requires.near

pub returns-then-not-mark_tile-clause-none : goal.returns-then-not-mark_tile-clause-none
returns-then-not-mark_tile-clause-none g c =
    let met = g.met.G.Grid in
    λ v h. first_never g.G.Grid.geometry met.laws c.args.cells.now c.requires.form c.args.triple c.window_size-count.ensures.triple.is_triple v.a v.b c.clear.new.marks c.clear.ensures (c.mark_tile.ensures.repeated c.if-not-mark_tile.true) h.covers
