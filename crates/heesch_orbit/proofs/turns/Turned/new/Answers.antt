use Rattle.std.proofs.Common.{◌∙◌, arith}
use Rattle.heesch_orbit.proofs.Images.{images_within, one_more, all_turned}
use Rattle.heesch_orbit.proofs.turns.Turned.new.Goals as goal

pub image-requires-clause-within : goal.image-requires-clause-within
image-requires-clause-within g c =
    let met = g.met.G.Grid in
    let less = c.loop-turn-test.true in
    let all = c.TURNS-turn-end.ensures ∙ met.sizes.turns_is in
    images_within g.G.Grid.geometry met.laws c.loop-turn.turn c.args.shape.now (omega (arith, less, all)) c.requires

pub loop-turn-preserved : goal.loop-turn-preserved
loop-turn-preserved g c =
    one_more g.G.Grid.geometry c.args.shape.now c.loop-turn.turn c.loop-turn.images.items c.push.new.self.items c.image.result c.loop-turn.invariant c.in_ok-push.ensures.items c.image.ensures.list

pub invariant_of-result : goal.invariant_of-result
invariant_of-result g c =
    let all = c.TURNS-turn-end.ensures ∙ g.met.G.Grid.sizes.turns_is in
    (all_turned g.G.Grid.geometry g.met.G.Grid.laws c.args.shape.now c.cells-cells.ensures.shape.polyform.is_set.rising c.loop-turn.turn c.loop-turn.images.items (omega (arith, c.loop-turn-test.false, c.loop-turn.auto.turn-end, all)) c.loop-turn.invariant).0

pub returns : goal.returns
returns g c =
    let all = c.TURNS-turn-end.ensures ∙ g.met.G.Grid.sizes.turns_is in
    (all_turned g.G.Grid.geometry g.met.G.Grid.laws c.args.shape.now c.cells-cells.ensures.shape.polyform.is_set.rising c.loop-turn.turn c.loop-turn.images.items (omega (arith, c.loop-turn-test.false, c.loop-turn.auto.turn-end, all)) c.loop-turn.invariant).1
