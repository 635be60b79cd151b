use Rattle.std.proofs.Common.{◌≡◌, ◌+◌, ◌*◌, ◌<◌, ap, subst, arith}
use Rattle.std.proofs.lemmas.Nat.{mul-add-lt}
use Rattle.heesch_place.specs.Spots.{MarkedSpots, width}
use Rattle.heesch_place.proofs.spots.SpotMarks.cell_place.Goals as goal

pub returns-clause-below : goal.returns-clause-below
returns-clause-below c =
    let r = c.self.inside.radius in
    let e : c.self.inside.radius ≡ c.args.self.now.radius = ap (λ (m : MarkedSpots). m.radius) c.self.view_is in
    let row : c.above.result < width r = omega (arith, e, c.requires.low, c.above.ensures.within) in
    let column : c.above-2.result < width r = omega (arith, e, c.requires.low, c.above-2.ensures.within) in
    subst (λ n. c.above.result * (2 * r + 1) + c.above-2.result < width n * width n) e (mul-add-lt c.above.result (width r) c.above-2.result (width r) row column)
