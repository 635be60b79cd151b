use Rattle.std.proofs.Common.{◌≡◌, ℤ, pos, ◌*ℤ◌, ap, ◌∙◌, arith}
use Rattle.std.proofs.lemmas.Int.{ints}
use Rattle.heesch_grid.specs.Geometry.{Geometry, IsGrid, apply}
use Rattle.heesch_grid.specs.Pairs.{Cell-eta}
use Rattle.heesch_grid.proofs.Images.{turn_within, read}
use Rattle.heesch_grid.proofs.isometries.Iso.apply_far.Goals as goal

-- the multiple of the unit that the code reads is the grid's
multiple : (g : Geometry) → IsGrid g → (u unit n : ℤ) → u ≡ unit → unit ≡ pos g.unit → read n ≡ n → (read u *ℤ read n) ≡ (pos g.unit *ℤ n)
multiple g laws u unit n e f h =
    let unit_is : read u ≡ pos g.unit = omega (arith, ints, e, f, laws.unit_range.0, laws.unit_range.1) in
    ap (λ x. x *ℤ read n) unit_is ∙ ap (λ y. pos g.unit *ℤ y) h

pub shifted-requires-clause-low : goal.shifted-requires-clause-low
shifted-requires-clause-low g c =
    let w = turn_within g.G.Grid.geometry g.met.G.Grid.laws c.args.self.turn 1000000 c.args.c c.requires.turn c.requires.within in
    omega (arith, ints, w.a_low, w.a_high, ap (λ c. c.a) c.turn-turned.ensures)

pub shifted-requires-clause-high : goal.shifted-requires-clause-high
shifted-requires-clause-high g c =
    let w = turn_within g.G.Grid.geometry g.met.G.Grid.laws c.args.self.turn 1000000 c.args.c c.requires.turn c.requires.within in
    omega (arith, ints, w.a_low, w.a_high, ap (λ c. c.a) c.turn-turned.ensures)

pub shifted-requires-clause-result_low : goal.shifted-requires-clause-result_low
shifted-requires-clause-result_low g c =
    let w = turn_within g.G.Grid.geometry g.met.G.Grid.laws c.args.self.turn 1000000 c.args.c c.requires.turn c.requires.within in
    let product = multiple g.G.Grid.geometry g.met.G.Grid.laws c.UNIT.result g.G.Sizes.UNIT c.args.self.da c.UNIT.ensures g.met.G.Grid.sizes.unit_is (omega (arith, ints)) in
    omega (arith, ints, product, w.a_low, w.a_high, c.requires.image_within.a_low, ap (λ c. c.a) c.turn-turned.ensures)

pub shifted-requires-clause-result_high : goal.shifted-requires-clause-result_high
shifted-requires-clause-result_high g c =
    let w = turn_within g.G.Grid.geometry g.met.G.Grid.laws c.args.self.turn 1000000 c.args.c c.requires.turn c.requires.within in
    let product = multiple g.G.Grid.geometry g.met.G.Grid.laws c.UNIT.result g.G.Sizes.UNIT c.args.self.da c.UNIT.ensures g.met.G.Grid.sizes.unit_is (omega (arith, ints)) in
    omega (arith, ints, product, w.a_low, w.a_high, c.requires.image_within.a_high, ap (λ c. c.a) c.turn-turned.ensures)

pub shifted-requires-2-clause-low : goal.shifted-requires-2-clause-low
shifted-requires-2-clause-low g c =
    let w = turn_within g.G.Grid.geometry g.met.G.Grid.laws c.args.self.turn 1000000 c.args.c c.requires.turn c.requires.within in
    omega (arith, ints, w.b_low, w.b_high, ap (λ c. c.b) c.turn-turned.ensures)

pub shifted-requires-2-clause-high : goal.shifted-requires-2-clause-high
shifted-requires-2-clause-high g c =
    let w = turn_within g.G.Grid.geometry g.met.G.Grid.laws c.args.self.turn 1000000 c.args.c c.requires.turn c.requires.within in
    omega (arith, ints, w.b_low, w.b_high, ap (λ c. c.b) c.turn-turned.ensures)

pub shifted-requires-2-clause-result_low : goal.shifted-requires-2-clause-result_low
shifted-requires-2-clause-result_low g c =
    let w = turn_within g.G.Grid.geometry g.met.G.Grid.laws c.args.self.turn 1000000 c.args.c c.requires.turn c.requires.within in
    let product = multiple g.G.Grid.geometry g.met.G.Grid.laws c.UNIT-2.result g.G.Sizes.UNIT c.args.self.db c.UNIT-2.ensures g.met.G.Grid.sizes.unit_is (omega (arith, ints)) in
    omega (arith, ints, product, w.b_low, w.b_high, c.requires.image_within.b_low, ap (λ c. c.b) c.turn-turned.ensures)

pub shifted-requires-2-clause-result_high : goal.shifted-requires-2-clause-result_high
shifted-requires-2-clause-result_high g c =
    let w = turn_within g.G.Grid.geometry g.met.G.Grid.laws c.args.self.turn 1000000 c.args.c c.requires.turn c.requires.within in
    let product = multiple g.G.Grid.geometry g.met.G.Grid.laws c.UNIT-2.result g.G.Sizes.UNIT c.args.self.db c.UNIT-2.ensures g.met.G.Grid.sizes.unit_is (omega (arith, ints)) in
    omega (arith, ints, product, w.b_low, w.b_high, c.requires.image_within.b_high, ap (λ c. c.b) c.turn-turned.ensures)

pub returns : goal.returns
returns g c =
    let w = turn_within g.G.Grid.geometry g.met.G.Grid.laws c.args.self.turn 1000000 c.args.c c.requires.turn c.requires.within in
    let product_a = multiple g.G.Grid.geometry g.met.G.Grid.laws c.UNIT.result g.G.Sizes.UNIT c.args.self.da c.UNIT.ensures g.met.G.Grid.sizes.unit_is (omega (arith, ints)) in
    let product_b = multiple g.G.Grid.geometry g.met.G.Grid.laws c.UNIT-2.result g.G.Sizes.UNIT c.args.self.db c.UNIT-2.ensures g.met.G.Grid.sizes.unit_is (omega (arith, ints)) in
    Cell-eta _ (apply g.G.Grid.geometry c.args.self c.args.c)
    (omega (arith, ints, c.shifted.ensures, product_a, w.a_low, w.a_high, c.requires.image_within.a_low, c.requires.image_within.a_high, ap (λ c. c.a) c.turn-turned.ensures))
    (omega (arith, ints, c.shifted-2.ensures, product_b, w.b_low, w.b_high, c.requires.image_within.b_low, c.requires.image_within.b_high, ap (λ c. c.b) c.turn-turned.ensures))
