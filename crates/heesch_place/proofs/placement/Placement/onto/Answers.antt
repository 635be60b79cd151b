use Rattle.std.proofs.Common.{◌≡◌, ◌<◌, [], get_or, length, map, sym, ap, subst, ◌∙◌, arith}
use Rattle.heesch_grid.specs.Cells.{has, IsCellListOf}
use Rattle.heesch_grid.proofs.Images.{wider}
use Rattle.heesch_place.proofs.Gathering.{any_default}
use Rattle.heesch_place.proofs.Moves.{led, leads, least_of, none_more}
use Rattle.heesch_place.proofs.placement.Placement.onto.Given as given
use Rattle.heesch_place.proofs.placement.Placement.onto.Goals as goal
use Rattle.heesch_place.proofs.placement.Placement.onto.Goals.{After-cells}

below : (g : given.Over) (c : After-cells g) → c.loop-k.k < g.G.Grid.geometry.turns
below g c = omega (arith, c.loop-k-test.true, c.turned-turned-items.ensures.long)

-- the cells are those of the prototile under turn k
list : (g : given.Over) (c : After-cells g) → IsCellListOf (map (g.G.Grid.geometry.turn c.loop-k.k) c.args.images.now) c.cells.result.now
list g c =
    let turned = c.turned-turned-items.result.now in
    let k = c.loop-k.k in
    let is : c.cells.result.now ≡ get_or turned k [] = c.cells.ensures.cells ∙ c.turned-item.is ∙ any_default turned k c.turned-item.result [] c.loop-k-test.true in
    subst (IsCellListOf (map (g.G.Grid.geometry.turn k) c.args.images.now)) (sym is) (c.turned-turned-items.ensures.each k (below g c))

pub leading-requires-clause-some : goal.leading-requires-clause-some
leading-requires-clause-some g c = omega (arith, c.cells.ensures.shape.polyform.some, ap length c.cells.ensures.cells)

pub leading-requires-clause-within : goal.leading-requires-clause-within
leading-requires-clause-within g c d h =
    wider 1000000 2000000 d (omega arith) (c.cells.ensures.shape.within d (ap (λ t. has t d) (sym c.cells.ensures.cells) ∙ h))

pub returns-in-Some-clause-least : goal.returns-in-Some-clause-least
returns-in-Some-clause-least g c =
    let at = (goal.at.returns-in-Some-clause-least g c).After-cells in
    let geometry = g.G.Grid.geometry in
    let shape = c.args.images.now in
    let by = c.in-Some.by in
    let turn = c.in-Some.ensures.turn in
    let few : by.turn < geometry.turns = let less = below g at in omega (arith, turn, less) in
    least_of geometry shape c.args.tile by few (led geometry c.loop-k.k by shape c.cells.result.now c.args.tile turn (list g at) c.in-Some.ensures.some) (λ other less. c.loop-k.invariant other (omega (arith, less, turn)))

pub loop-k-preserved : goal.loop-k-preserved
loop-k-preserved g c =
    let at = (goal.at.loop-k-preserved g c).After-cells in
    let geometry = g.G.Grid.geometry in
    let shape = c.args.images.now in
    none_more geometry shape c.args.tile c.loop-k.k c.loop-k.invariant (λ other turn l. c.in_default.ensures.none other (leads geometry c.loop-k.k other shape c.cells.result.now c.args.tile turn (list g at) l))

pub unreachable-requires : goal.unreachable-requires
unreachable-requires g c =
    let p = c.requires in
    let less = p.is_isometry in
    c.loop-k.invariant p.by (omega (arith, less, c.loop-k-test.false, c.turned-turned-items.ensures.long)) p.is_list
