use Rattle.std.proofs.Common.{◌<◌, length, map, sym, ap, ◌∙◌, arith}
use Rattle.heesch_grid.specs.Vectors.{plus}
use Rattle.heesch_place.specs.Steps.{step_of}
use Rattle.heesch_place.proofs.Moves.{led, leads, least_of, none_more}
use Rattle.heesch_place.proofs.placement.Placement.new.Goals as goal

pub leading-requires-clause-some : goal.leading-requires-clause-some
leading-requires-clause-some g c =
    omega (arith, c.cells-cells.ensures.shape.polyform.some, c.turned.ensures.long, ap length c.as_slice.ensures.value)

pub returns-in-Some-clause-least : goal.returns-in-Some-clause-least
returns-in-Some-clause-least g c =
    let geometry = g.G.Grid.geometry in
    let shape = c.args.shape.now in
    let tile = c.image-tile.result in
    let least = c.in-Some.least in
    let turn = c.in-Some.ensures.turn in
    let below : least.turn < geometry.turns = let less = c.loop-k-test.true in let top = c.requires.turn in omega (arith, turn, less, top) in
    let gives = led geometry c.loop-k.k least shape c.turned.result.items tile turn c.turned.ensures.list (c.in-Some.ensures.some ∙ ap (map (plus (step_of geometry least))) c.as_slice.ensures.value) in
    least_of geometry shape tile least below gives (λ other less. c.loop-k.invariant other (omega (arith, less, turn)))

pub loop-k-preserved : goal.loop-k-preserved
loop-k-preserved g c =
    let geometry = g.G.Grid.geometry in
    let shape = c.args.shape.now in
    let tile = c.image-tile.result in
    none_more geometry shape tile c.loop-k.k c.loop-k.invariant (λ other turn l.
    c.in_default.ensures.none other (leads geometry c.loop-k.k other shape c.turned.result.items tile turn c.turned.ensures.list l ∙ ap (map (plus (step_of geometry other))) (sym c.as_slice.ensures.value)))

pub returns-clause-least : goal.returns-clause-least
returns-clause-least g c =
    let done = c.loop-k-test.false in
    least_of g.G.Grid.geometry c.args.shape.now c.image-tile.result c.args.by c.requires.turn c.image-tile.ensures.list (λ other less. c.loop-k.invariant other (omega (arith, less, done)))
