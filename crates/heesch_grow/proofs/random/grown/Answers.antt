use Rattle.std.proofs.Common.{◌+◌, ◌*◌, arith}
use Rattle.heesch_grow.proofs.Generated.{drawn_within, drawn_adjacent, drawn_outside, grown_one, grown_next}
use Rattle.heesch_grow.proofs.random.grown.Goals as goal

pub loop-draw-init : goal.loop-draw-init
loop-draw-init g c = grown_one g.G.Grid.geometry g.met.G.Grid.laws c.args.draws.now c.first-shape.result c.first-shape.ensures.free c.first-shape.ensures.shape

pub with-shape-requires-clause-within : goal.with-shape-requires-clause-within
with-shape-requires-clause-within g c =
    drawn_within g.G.Grid.geometry g.met.G.Grid.laws (200 + 4 * c.loop-draw._draw) c.next.result c.loop-draw.shape c.drawn_cell-added.result (omega arith) c.loop-draw.invariant.near c.drawn_cell-added.ensures

pub with-shape-requires-clause-adjacent : goal.with-shape-requires-clause-adjacent
with-shape-requires-clause-adjacent g c = drawn_adjacent g.G.Grid.geometry c.next.result c.loop-draw.shape c.drawn_cell-added.result c.drawn_cell-added.ensures

pub with-shape-requires-clause-outside : goal.with-shape-requires-clause-outside
with-shape-requires-clause-outside g c = drawn_outside g.G.Grid.geometry c.next.result c.loop-draw.shape c.drawn_cell-added.result c.drawn_cell-added.ensures

pub loop-draw-preserved : goal.loop-draw-preserved
loop-draw-preserved g c =
    grown_next g.G.Grid.geometry g.met.G.Grid.laws c.args.draws.now c.loop-draw._draw c.loop-draw.shape c.loop-draw.draws c.next.new.self c.next.result c.drawn_cell-added.result c.with-shape.result
    c.loop-draw.invariant c.next.ensures.state c.next.ensures.answer c.drawn_cell-added.ensures c.with-shape.ensures.list c.with-shape.ensures.shape
