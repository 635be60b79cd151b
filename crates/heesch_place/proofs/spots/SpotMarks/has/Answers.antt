use Rattle.std.proofs.Common.{◌≡◌, ◌+◌, ◌*◌, ◌<◌, true, false, ◌&&◌, length, get_or, sym, ap, subst, ◌∙◌, arith}
use Rattle.std.proofs.lemmas.Nat.{mul-add-lt}
use Rattle.heesch_place.specs.Spots.{MarkedSpots, cell_place, has_mark, is_near, spot_place, width}
use Rattle.heesch_place.proofs.Gathering.{any_default}
use Rattle.heesch_place.proofs.spots.SpotMarks.has.Goals as goal
use Rattle.heesch_place.proofs.spots.SpotMarks.has.Goals.{After-cell_place-place}

-- the place is that of a mark
within : (c : After-cell_place-place) → c.cell_place-place.result * c.self.inside.forms + c.args.spot.form < length c.self.inside.marks.items
within c =
    let r = c.self.inside.radius in
    let er : r ≡ c.args.self.now.radius = ap (λ (m : MarkedSpots). m.radius) c.self.view_is in
    let ef : c.self.inside.forms ≡ c.args.self.now.forms = ap (λ (m : MarkedSpots). m.forms) c.self.view_is in
    let below = subst (λ n. c.cell_place-place.result < width n * width n) (sym er) c.cell_place-place.ensures.below in
    let h = mul-add-lt c.cell_place-place.result c.self.inside.forms c.args.spot.form (width r * width r) below (omega (arith, ef, c.requires)) in
    omega (arith, h, c.self.invariant.long)

pub index-requires : goal.index-requires
index-requires c = omega (arith, within (goal.at.index-requires c).After-cell_place-place, c.self.inside.marks.ok.0)

pub returns-then-not-is_near : goal.returns-then-not-is_near
unfolding has_mark
returns-then-not-is_near c =
    let m = c.args.self.now in
    let er = ap (λ (m : MarkedSpots). m.radius) c.self.view_is in
    let near : is_near m.radius c.args.spot.first ≡ false = ap (λ r. is_near r c.args.spot.first) (sym er) ∙ sym c.is_near.ensures ∙ c.if-not-is_near.true in
    ap (λ b. b && get_or m.marks (spot_place (width m.radius) m.radius m.forms c.args.spot) false) (sym near)

pub returns : goal.returns
unfolding has_mark
returns c =
    let m = c.args.self.now in
    let s = c.args.spot in
    let n = c.cell_place-place.result * c.self.inside.forms + s.form in
    let er = ap (λ (m : MarkedSpots). m.radius) c.self.view_is in
    let near : is_near m.radius s.first ≡ true = ap (λ r. is_near r s.first) (sym er) ∙ sym c.is_near.ensures ∙ c.if-not-is_near.false in
    let place : n ≡ spot_place (width m.radius) m.radius m.forms s = ap (λ k. k * c.self.inside.forms + s.form) (c.cell_place-place.ensures.is ∙ ap (λ l. cell_place (width m.radius) l s.first) er)
    ∙ ap (λ k. cell_place (width m.radius) m.radius s.first * k + s.form) (ap (λ (m : MarkedSpots). m.forms) c.self.view_is) in
    let marks : c.self.inside.marks.items ≡ m.marks = ap (λ (m : MarkedSpots). m.marks) c.self.view_is in
    c.index.ensures ∙ any_default c.self.inside.marks.items n c.index.result.now false (within (goal.at.returns c).After-cell_place-place) ∙ (λ i. get_or (marks i) (place i) false)
    ∙ ap (λ b. b && get_or m.marks (spot_place (width m.radius) m.radius m.forms s) false) (sym near)
