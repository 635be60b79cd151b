use Rattle.std.proofs.Common.{◌≡◌, ap, ◌∙◌, pos, ◌-ℤ◌, ◌*ℤ◌, neg_ℤ, w32, arith}
use Rattle.std.proofs.lemmas.Int.{ints, to_z-of_z}
use Rattle.heesch_grid.specs.Integers.{mul_neg}
use Rattle.heesch_grid.proofs.Images.{read}
use Rattle.heesch_place.proofs.images.units_back.Goals as goal

pub returns-clause-near : goal.returns-clause-near
returns-clause-near c =
    let w = c.requires.near in
    record {
      a_low = omega (arith, ints, w.a_low, w.a_high, c.units_below.ensures.size);
      a_high = omega (arith, ints, w.a_low, w.a_high, c.units_below.ensures.size);
      b_low = omega (arith, ints, w.b_low, w.b_high, c.units_below-2.ensures.size);
      b_high = omega (arith, ints, w.b_low, w.b_high, c.units_below-2.ensures.size);
    }

pub returns-clause-back : goal.returns-clause-back
returns-clause-back c =
    let w = c.requires.near in
    let unit = to_z-of_z w32 c.args.unit c.ranges.unit in
    let m = c.units_below.result in
    let n = c.units_below-2.result in
    let a : read (pos 0 -ℤ read m) ≡ neg_ℤ m = omega (arith, ints, w.a_low, w.a_high, c.units_below.ensures.size) in
    let b : read (pos 0 -ℤ read n) ≡ neg_ℤ n = omega (arith, ints, w.b_low, w.b_high, c.units_below-2.ensures.size) in
    let pa = ap (λ z. c.args.unit *ℤ z) a ∙ mul_neg c.args.unit m in
    let pb = ap (λ z. c.args.unit *ℤ z) b ∙ mul_neg c.args.unit n in
    let ua = ap (λ u. u *ℤ m) unit in
    let ub = ap (λ u. u *ℤ n) unit in
    record {
      a_low = omega (arith, ints, pa, ua, c.units_below.ensures.low);
      a_high = omega (arith, ints, pa, ua, unit, c.units_below.ensures.high);
      b_low = omega (arith, ints, pb, ub, c.units_below-2.ensures.low);
      b_high = omega (arith, ints, pb, ub, unit, c.units_below-2.ensures.high);
    }
