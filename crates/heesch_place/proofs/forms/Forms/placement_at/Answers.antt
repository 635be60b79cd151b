use Rattle.std.proofs.Common.{◌≡◌, map, pos, sym, subst, ◌∙◌, arith}
use Rattle.std.proofs.lemmas.Int.{ints}
use Rattle.heesch_grid.specs.Vectors.{AreUnitsOf, plus}
use Rattle.heesch_grid.specs.Pairs.{Cell-eta}
use Rattle.heesch_grid.proofs.Images.{read}
use Rattle.heesch_place.proofs.Moving.{scaled}
use Rattle.heesch_place.proofs.forms.Forms.placement_at.Given as given
use Rattle.heesch_place.proofs.forms.Forms.placement_at.Goals as goal
use Rattle.heesch_place.proofs.forms.Forms.placement_at.Goals.{After-UNIT}

unit : (g : given.Over) (c : After-UNIT g) → read c.UNIT.result ≡ pos g.G.Grid.geometry.unit
unit g c = omega (arith, ints, c.UNIT.ensures, g.met.G.Grid.sizes.unit_is, g.met.G.Grid.laws.unit_range.1)

pub unreachable-requires : goal.unreachable-requires
unreachable-requires g c =
    let w = c.requires.is_spot.whole in
    c.in_default.ensures.none w.0 (subst (λ u. AreUnitsOf u w.0 c.step_to.result) (sym (unit g (goal.at.unreachable-requires g c).After-UNIT)) (subst (AreUnitsOf (pos g.G.Grid.geometry.unit) w.0) (sym c.step_to.ensures.is) w.1))

pub moved-requires-clause-units : goal.moved-requires-clause-units
moved-requires-clause-units g c = c.in-Some.ensures.near 105000 c.step_to.ensures.near

pub returns-clause-tile : goal.returns-clause-tile
returns-clause-tile g c =
    let geometry = g.G.Grid.geometry in
    let units = c.in-Some.units in
    let w = subst (λ u. AreUnitsOf u units c.step_to.result) (unit g (goal.at.returns-clause-tile g c).After-UNIT) c.in-Some.ensures.some in
    let step = Cell-eta (scaled geometry units) c.step_to.result w.in_a w.in_b ∙ c.step_to.ensures.is in
    c.moved.ensures.tile ∙ (λ i. map (plus (step i)) (c.form.ensures.tile i))

pub returns-clause-least : goal.returns-clause-least
returns-clause-least g c = c.moved.ensures.least c.args.self.now.shape c.form.ensures.least
