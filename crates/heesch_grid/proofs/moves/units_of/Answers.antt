use Rattle.std.proofs.Common.{arith}
use Rattle.std.proofs.lemmas.Int.{ints}
use Rattle.heesch_grid.proofs.moves.units_of.Goals as goal

pub returns-clause-near : goal.returns-clause-near
returns-clause-near c n w =
    let a = c.in-Some.ensures.size in
    let b = c.in-Some-whole_units.ensures.size in
    record {
      a_low = omega (arith, ints, w.a_low, w.a_high, a);
      a_high = omega (arith, ints, w.a_low, w.a_high, a);
      b_low = omega (arith, ints, w.b_low, w.b_high, b);
      b_high = omega (arith, ints, w.b_low, w.b_high, b);
    }
