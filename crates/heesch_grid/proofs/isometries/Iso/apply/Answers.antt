use Rattle.std.proofs.Common.{◌≡◌, ℤ, pos, to_z, of_z, w32, ap, arith}
use Rattle.std.proofs.lemmas.Int.{ints}
use Rattle.heesch_grid.specs.Geometry.{apply}
use Rattle.heesch_grid.specs.Pairs.{Cell-eta}
use Rattle.heesch_grid.proofs.Images.{turn_within, unit_product}
use Rattle.heesch_grid.proofs.isometries.Iso.apply.Goals as goal

abbrev read : ℤ → ℤ
read z = to_z w32 (of_z w32 z)

pub scaled-requires-clause-positive : goal.scaled-requires-clause-positive
scaled-requires-clause-positive g c =
    let met = g.met.G.Grid in
    omega (arith, ints, c.UNIT.ensures, met.sizes.unit_is, met.laws.unit_range.0, met.laws.unit_range.1)

pub scaled-requires-clause-small : goal.scaled-requires-clause-small
scaled-requires-clause-small g c =
    let met = g.met.G.Grid in
    omega (arith, ints, c.UNIT.ensures, met.sizes.unit_is, met.laws.unit_range.0, met.laws.unit_range.1)

pub scaled-requires-2-clause-positive : goal.scaled-requires-2-clause-positive
scaled-requires-2-clause-positive g c =
    let met = g.met.G.Grid in
    omega (arith, ints, c.UNIT-2.ensures, met.sizes.unit_is, met.laws.unit_range.0, met.laws.unit_range.1)

pub scaled-requires-2-clause-small : goal.scaled-requires-2-clause-small
scaled-requires-2-clause-small g c =
    let met = g.met.G.Grid in
    omega (arith, ints, c.UNIT-2.ensures, met.sizes.unit_is, met.laws.unit_range.0, met.laws.unit_range.1)

pub overflow_add-result : goal.overflow_add-result
overflow_add-result g c =
    let met = g.met.G.Grid in
    let unit_is : read c.UNIT.result ≡ pos g.G.Grid.geometry.unit = omega (arith, ints, c.UNIT.ensures, met.sizes.unit_is, met.laws.unit_range.0, met.laws.unit_range.1) in
    let da_is : read c.args.self.da ≡ c.args.self.da = omega (arith, ints) in
    let x = unit_product g.G.Grid.geometry met.laws c.scaled.result (read c.UNIT.result) (read c.args.self.da) c.args.self.da 100000 c.scaled.ensures unit_is da_is c.requires.near.a_low c.requires.near.a_high in
    let w = turn_within g.G.Grid.geometry met.laws c.args.self.turn 1000000 c.args.c c.requires.turn c.requires.within in
    let e = ap (λ c. c.a) c.turn-turned.ensures in
    omega (arith, ints, x.1, x.2, w.a_low, w.a_high, e)

pub overflow_add-result-2 : goal.overflow_add-result-2
overflow_add-result-2 g c =
    let met = g.met.G.Grid in
    let unit_is : read c.UNIT-2.result ≡ pos g.G.Grid.geometry.unit = omega (arith, ints, c.UNIT-2.ensures, met.sizes.unit_is, met.laws.unit_range.0, met.laws.unit_range.1) in
    let db_is : read c.args.self.db ≡ c.args.self.db = omega (arith, ints) in
    let x = unit_product g.G.Grid.geometry met.laws c.scaled-2.result (read c.UNIT-2.result) (read c.args.self.db) c.args.self.db 100000 c.scaled-2.ensures unit_is db_is c.requires.near.b_low c.requires.near.b_high in
    let w = turn_within g.G.Grid.geometry met.laws c.args.self.turn 1000000 c.args.c c.requires.turn c.requires.within in
    let e = ap (λ c. c.b) c.turn-turned.ensures in
    omega (arith, ints, x.1, x.2, w.b_low, w.b_high, e)

pub returns : goal.returns
returns g c =
    let met = g.met.G.Grid in
    let unit_is : read c.UNIT.result ≡ pos g.G.Grid.geometry.unit = omega (arith, ints, c.UNIT.ensures, met.sizes.unit_is, met.laws.unit_range.0, met.laws.unit_range.1) in
    let unit_is_2 : read c.UNIT-2.result ≡ pos g.G.Grid.geometry.unit = omega (arith, ints, c.UNIT-2.ensures, met.sizes.unit_is, met.laws.unit_range.0, met.laws.unit_range.1) in
    let da_is : read c.args.self.da ≡ c.args.self.da = omega (arith, ints) in
    let db_is : read c.args.self.db ≡ c.args.self.db = omega (arith, ints) in
    let x = unit_product g.G.Grid.geometry met.laws c.scaled.result (read c.UNIT.result) (read c.args.self.da) c.args.self.da 100000 c.scaled.ensures unit_is da_is c.requires.near.a_low c.requires.near.a_high in
    let y = unit_product g.G.Grid.geometry met.laws c.scaled-2.result (read c.UNIT-2.result) (read c.args.self.db) c.args.self.db 100000 c.scaled-2.ensures unit_is_2 db_is c.requires.near.b_low c.requires.near.b_high in
    let w = turn_within g.G.Grid.geometry met.laws c.args.self.turn 1000000 c.args.c c.requires.turn c.requires.within in
    let ea = ap (λ c. c.a) c.turn-turned.ensures in
    let eb = ap (λ c. c.b) c.turn-turned.ensures in
    Cell-eta _ (apply g.G.Grid.geometry c.args.self c.args.c)
    (omega (arith, ints, x.0, x.1, x.2, w.a_low, w.a_high, ea))
    (omega (arith, ints, y.0, y.1, y.2, w.b_low, w.b_high, eb))
