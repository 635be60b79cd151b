use Rattle.std.proofs.Common.{◌≡◌, pos, sym, subst, arith}
use Rattle.std.proofs.lemmas.Int.{ints}
use Rattle.std.proofs.lemmas.Bool.{false_from_ne_true}
use Rattle.heesch_grid.specs.Vectors.{AreUnitsOf}
use Rattle.heesch_grid.proofs.Images.{read}
use Rattle.heesch_place.specs.Spots.{is_whole, step_to}
use Rattle.heesch_place.proofs.Tiles.{test_whole, whole_test}
use Rattle.heesch_place.proofs.forms.Forms.is_whole.Given as given
use Rattle.heesch_place.proofs.forms.Forms.is_whole.Goals as goal
use Rattle.heesch_place.proofs.forms.Forms.is_whole.Goals.{After-UNIT}

unit : (g : given.Over) (c : After-UNIT g) → read c.UNIT.result ≡ pos g.G.Grid.geometry.unit
unit g c = omega (arith, ints, c.UNIT.ensures, g.met.G.Grid.sizes.unit_is, g.met.G.Grid.laws.unit_range.1)

pub returns-in_default : goal.returns-in_default
returns-in_default g c =
    let geometry = g.G.Grid.geometry in
    let step = step_to c.args.self.now.forms c.args.spot in
    sym (false_from_ne_true (is_whole geometry step) (λ e.
    let w = whole_test geometry g.met.G.Grid.laws step e in
    c.in_default.ensures.none w.0 (subst (λ u. AreUnitsOf u w.0 c.step_to.result) (sym (unit g (goal.at.returns-in_default g c).After-UNIT)) (subst (AreUnitsOf (pos geometry.unit) w.0) (sym c.step_to.ensures.is) w.1))))

pub returns : goal.returns
returns g c =
    let geometry = g.G.Grid.geometry in
    let units = c.in-Some.field-0 in
    let w = subst (λ u. AreUnitsOf u units c.step_to.result) (unit g (goal.at.returns g c).After-UNIT) c.in-Some.ensures.some in
    sym (test_whole geometry (step_to c.args.self.now.forms c.args.spot) (units, subst (AreUnitsOf (pos geometry.unit) units) c.step_to.ensures.is w))
