use Rattle.std.proofs.Common.{◌≡◌, ◌∙◌, ◌<◌, List, sym, subst, rules, true≢false}
use Rattle.heesch_grid.specs.declared.Cell.{Cell}
use Rattle.heesch_grid.specs.Geometry.{image}
use Rattle.heesch_grid.specs.Placement.{IsLeastIsometry}
use Rattle.heesch_grid.proofs.SymmetryFacts.{least_isometries_are_unique}
use Rattle.heesch_place.proofs.Moves.{one_cell_list}
use Rattle.heesch_corona.proofs.Added.{image_near}
use Rattle.heesch_logs.proofs.Equal.{isos_equal}
use Rattle.heesch_logs.proofs.spelling.least_placed.Goals as goal

pub new-place-requires-clause-within : goal.new-place-requires-clause-within
new-place-requires-clause-within g c =
    let turn : c.args.by.turn < g.G.Grid.geometry.turns = search rules in
    image_near g.G.Grid.geometry g.met.G.Grid.laws c.args.shape.now c.args.by c.requires.shape.near (turn, c.requires.near)

pub returns-then-eq-clause-some : goal.returns-then-eq-clause-some
returns-then-eq-clause-some g c =
    let same : c.iso.result ≡ c.args.by = (isos_equal c.iso.result c.args.by c.eq.result c.eq.ensures).0 c.if-eq.true in
    subst (IsLeastIsometry g.G.Grid.geometry c.args.shape.now c.new-place.result.tile) (sym c.iso.ensures ∙ same) c.new-place.ensures.least

pub returns-clause-none : goal.returns-clause-none
returns-clause-none g c tile least =
    let geometry = g.G.Grid.geometry in
    let shape = c.args.shape.now in
    let place = c.new-place.result in
    let one : place.tile ≡ tile = one_cell_list (image geometry c.args.by shape) place.tile tile c.new-place.ensures.tile least.gives in
    let by : place.by ≡ c.args.by = least_isometries_are_unique geometry shape tile place.by c.args.by g.met.G.Grid.laws c.requires.shape.is_shape.polyform.some (subst (λ (t : List Cell). IsLeastIsometry geometry shape t place.by) one c.new-place.ensures.least) least in
    true≢false (sym ((isos_equal c.iso.result c.args.by c.eq.result c.eq.ensures).1 (c.iso.ensures ∙ by)) ∙ c.if-eq.false)
