use Rattle.std.proofs.Common.{◌≡◌, ◌+◌, ◌*◌, subst, pos, refl, sym, ap, ◌∙◌, Contains, arith}
use Rattle.std.proofs.lemmas.Int.{ints}
use Rattle.std.proofs.lemmas.List.Elements.{All-contains}
use Rattle.heesch_grid.specs.declared.Cell.{Cell}
use Rattle.heesch_grid.specs.declared.isometries.Iso.{Iso}
use Rattle.heesch_grid.specs.Cells.{cell, has}
use Rattle.heesch_grid.specs.Geometry.{image}
use Rattle.heesch_grid.specs.Pairs.{has-true}
use Rattle.heesch_grid.specs.Vectors.{IsWithin}
use Rattle.heesch_grid.proofs.Images.{read, wider}
use Rattle.heesch_grid.proofs.ListFacts.{All-from_members}
use Rattle.heesch_place.specs.Steps.{IsFirstOf}
use Rattle.heesch_place.proofs.Moves.{carried, carried_near, step_near}
use Rattle.heesch_place.proofs.Moving.{begins_in_block}
use Rattle.heesch_place.proofs.images.settled.Given as given
use Rattle.heesch_place.proofs.images.settled.Goals as goal
use Rattle.heesch_place.proofs.images.settled.Goals.{After-units_back-units}

abbrev by : (g : given.Over) (c : After-units_back-units g) → Iso
by g c = record { turn = 0; da = read c.units_back-units.result.a; db = read c.units_back-units.result.b }

-- the image lies near 0
near : (g : given.Over) (c : After-units_back-units g) (d : Cell) → Contains (image g.G.Grid.geometry (by g c) c.args.tile.now) d → IsWithin (400 + 6 * 400) d
near g c d m =
    let geometry = g.G.Grid.geometry in
    let law = g.met.G.Grid.laws in
    let units = c.units_back-units.result in
    let w = c.units_back-units.ensures.near in
    carried_near geometry law (by g c) c.args.tile.now 400 (6 * 400) refl c.requires (step_near geometry law (by g c) units 400 (omega (arith, ints, w.a_low, w.a_high)) (omega (arith, ints, w.b_low, w.b_high)) w) d m

pub units_back-units-requires-clause-near : goal.units_back-units-requires-clause-near
units_back-units-requires-clause-near g c = c.requires c.first_of.result (ap (λ zs. has zs c.first_of.result) (sym c.cells.ensures.cells) ∙ c.first_of.ensures.member)

pub image-requires-clause-within : goal.image-requires-clause-within
image-requires-clause-within g c =
    let at = (goal.at.image-requires-clause-within g c).After-units_back-units in
    All-from_members (IsWithin 1000000) (image g.G.Grid.geometry (by g at) c.args.tile.now) (λ d m. wider (400 + 6 * 400) 1000000 d (omega arith) (near g at d m))

pub returns-clause-moved : goal.returns-clause-moved
returns-clause-moved g c =
    let at = (goal.at.returns-clause-moved g c).After-units_back-units in
    let t = c.args.tile.now in
    record { units = cell (by g at).da (by g at).db; is = carried g.G.Grid.geometry g.met.G.Grid.laws (by g at) t c.image.result refl c.cells.ensures.shape.polyform.is_set.rising c.image.ensures.list }

pub returns-clause-near : goal.returns-clause-near
returns-clause-near g c d h =
    let at = (goal.at.returns-clause-near g c).After-units_back-units in
    let all = image g.G.Grid.geometry (by g at) c.args.tile.now in
    wider (400 + 6 * 400) 5000 d (omega arith) (near g at d (All-contains (Contains all) c.image.result d c.image.ensures.list.only (has-true c.image.result d h)))

pub returns-clause-begins : goal.returns-clause-begins
returns-clause-begins g c =
    let met = g.met.G.Grid in
    let geometry = g.G.Grid.geometry in
    let at = (goal.at.returns-clause-begins g c).After-units_back-units in
    let units = c.units_back-units.result in
    let w = c.units_back-units.ensures.near in
    let unit : read c.UNIT.result ≡ pos geometry.unit = omega (arith, ints, c.UNIT.ensures, met.sizes.unit_is, met.laws.unit_range.1) in
    begins_in_block geometry (read c.UNIT.result) (by g at) units c.first_of.result c.args.tile.now c.image.result unit (omega (arith, ints, w.a_low, w.a_high)) (omega (arith, ints, w.b_low, w.b_high))
    (subst (λ zs. IsFirstOf zs c.first_of.result) c.cells.ensures.cells c.first_of.ensures.first)
    (carried geometry met.laws (by g at) c.args.tile.now c.image.result refl c.cells.ensures.shape.polyform.is_set.rising c.image.ensures.list) c.units_back-units.ensures.back
