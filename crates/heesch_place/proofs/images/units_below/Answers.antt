use Rattle.std.proofs.Common.{◌≡◌, ◌*ℤ◌, w32, ap, ◌∙◌, arith}
use Rattle.std.specs.Int.{int_div_euclid}
use Rattle.std.proofs.lemmas.Int.{ints, to_z-of_z}
use Rattle.heesch_grid.proofs.Images.{read}
use Rattle.heesch_place.proofs.Moving.{euclid}
use Rattle.heesch_place.proofs.images.units_below.Goals as goal
use Rattle.heesch_place.proofs.images.units_below.Goals.{After-div_euclid}

-- the quotient, as the code reads it
quotient : (c : After-div_euclid) → (c.args.unit *ℤ read c.div_euclid.result) ≡ (c.args.unit *ℤ int_div_euclid c.args.z c.args.unit)
quotient c =
    let same : read c.div_euclid.result ≡ c.div_euclid.result = omega (arith, ints, c.div_euclid.type_inv) in
    let q = c.div_euclid.ensures ∙ ap (λ z. int_div_euclid z (read c.args.unit)) (to_z-of_z w32 c.args.z c.ranges.z) ∙ ap (int_div_euclid c.args.z) (to_z-of_z w32 c.args.unit c.ranges.unit) in
    ap (λ z. c.args.unit *ℤ z) (same ∙ q)

pub returns-clause-low : goal.returns-clause-low
returns-clause-low c = omega (arith, ints, quotient c, (euclid c.args.z c.args.unit c.requires).0)

pub returns-clause-high : goal.returns-clause-high
returns-clause-high c = omega (arith, ints, quotient c, (euclid c.args.z c.args.unit c.requires).1)
