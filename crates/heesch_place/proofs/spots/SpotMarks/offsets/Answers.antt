use Rattle.std.proofs.Common.{◌≡◌, rules, ◌+◌, ◌*◌, ◌^◌, ◌<◌, Contains, [], ◌∷◌, ◌++◌, get_or, ap, sym, subst, ◌∙◌, arith}
use Rattle.heesch_grid.specs.Cells.{origin}
use Rattle.heesch_grid.specs.Vectors.{IsWithin, minus}
use Rattle.heesch_grid.proofs.Images.{wider}
use Rattle.heesch_place.specs.declared.spots.Spot.{Spot}
use Rattle.heesch_place.specs.Spots.{AreNumbers, MarkedSpots, cell_place, seen_from, spot_place, width}
use Rattle.heesch_place.proofs.Gathering.{member_at, numbers_none, numbers_more, numbers_all}
use Rattle.heesch_place.proofs.Moves.{away}
use Rattle.heesch_place.proofs.Places.{spot_below}
use Rattle.heesch_place.proofs.spots.SpotMarks.offsets.Goals as goal
use Rattle.heesch_place.proofs.spots.SpotMarks.offsets.Goals.{After-cell_place-place}

abbrev none : Spot
none = record { form = 0; first = origin }

pub difference-requires-clause-to : goal.difference-requires-clause-to
difference-requires-clause-to c =
    let s = get_or c.args.spots.now c.loop-spot.spot-index none in
    wider 1000000 2000000 s.first (omega arith) (c.requires.near s (member_at c.args.spots.now c.loop-spot.spot-index none c.loop-spot-test.true))

pub cell_place-place-requires-clause-within : goal.cell_place-place-requires-clause-within
cell_place-place-requires-clause-within c =
    let s = get_or c.args.spots.now c.loop-spot.spot-index none in
    subst (IsWithin c.args.reach) (sym (away c.difference.result c.args.from s.first c.difference.ensures.is)) (c.requires.within s (member_at c.args.spots.now c.loop-spot.spot-index none c.loop-spot-test.true))

-- the place as the code computes it
place_is : (c : After-cell_place-place) → let s = get_or c.args.spots.now c.loop-spot.spot-index none in c.cell_place-place.result * c.self.inside.forms + s.form ≡ spot_place (width c.args.self.now.radius) c.args.reach c.args.self.now.forms (seen_from c.args.from s)
place_is c =
    let s = get_or c.args.spots.now c.loop-spot.spot-index none in
    let wide = width c.args.self.now.radius in
    ap (λ n. n * c.self.inside.forms + s.form) (c.cell_place-place.ensures.is ∙ ap (cell_place wide c.args.reach) (away c.difference.result c.args.from s.first c.difference.ensures.is))
    ∙ ap (λ k. cell_place wide c.args.reach (minus s.first c.args.from) * k + s.form) (ap (λ (m : MarkedSpots). m.forms) c.self.view_is)

pub overflow_cast-place : goal.overflow_cast-place
overflow_cast-place c =
    let m = c.args.self.now in
    let s = get_or c.args.spots.now c.loop-spot.spot-index none in
    let inside = member_at c.args.spots.now c.loop-spot.spot-index none c.loop-spot-test.true in
    let h = spot_below m.radius m.forms c.args.reach (seen_from c.args.from s) c.requires.reach (c.requires.within s inside) (c.requires.forms s inside) in
    let area = ap (λ (m : MarkedSpots). width m.radius * width m.radius * m.forms) c.self.view_is in
    let small : c.cell_place-place.result * c.self.inside.forms + s.form < 2 ^ 32 = omega (arith, h, place_is (goal.at.overflow_cast-place c).After-cell_place-place, area, c.self.invariant.long, c.self.invariant.below) in
    search rules

pub loop-spot-init : goal.loop-spot-init
loop-spot-init c =
    let m = c.args.self.now in
    let number = λ (s : Spot). spot_place (width m.radius) c.args.reach m.forms (seen_from c.args.from s) in
    subst (AreNumbers (Contains []) number) (sym c.new-offsets.ensures.items) (numbers_none number c.args.spots.now)

pub loop-spot-preserved : goal.loop-spot-preserved
loop-spot-preserved c =
    let m = c.args.self.now in
    let number = λ (s : Spot). spot_place (width m.radius) c.args.reach m.forms (seen_from c.args.from s) in
    numbers_more number c.args.spots.now c.loop-spot.spot-index none c.loop-spot.offsets.items c.add.new.all.items c.loop-spot-test.true c.loop-spot.invariant
    (c.in_ok-add.ensures ∙ ap (λ n. c.loop-spot.offsets.items ++ n ∷ []) (place_is (goal.at.loop-spot-preserved c).After-cell_place-place))

pub returns : goal.returns
returns c =
    let m = c.args.self.now in
    let number = λ (s : Spot). spot_place (width m.radius) c.args.reach m.forms (seen_from c.args.from s) in
    numbers_all number c.args.spots.now c.loop-spot.spot-index c.loop-spot.offsets.items (omega (arith, c.loop-spot-test.false, c.loop-spot.auto.spot-index-end)) c.loop-spot.invariant
