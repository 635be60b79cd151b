use Rattle.std.proofs.Common.{arith}
use Rattle.heesch_tiling.proofs.Spots.{window_small}
use Rattle.heesch_tiling.proofs.Steps.{cells_near}
use Rattle.heesch_tiling.proofs.check.cover_of.Goals as goal

pub count_tiles-requires-clause-cells : goal.count_tiles-requires-clause-cells
count_tiles-requires-clause-cells g c = cells_near g.G.Grid.geometry c.args.cells.now c.requires.form c.requires.near

pub answer-requires-clause-few : goal.answer-requires-clause-few
answer-requires-clause-few g c =
    let met = g.met.G.Grid in
    let few = window_small g.G.Grid.geometry.unit c.args.triple.p c.args.triple.q met.laws.unit_range.1 in
    let all = c.count_tiles.ensures.all in
    let small = c.requires.triple.small in
    omega (arith, all, few, small)

pub returns : goal.returns
returns g c =
    c.answer.ensures c.args.cells.now c.args.places.now c.requires.triple.is_triple c.requires.form (λ k d l. (c.requires.range k d l).turn) c.count_tiles.ensures
