use Rattle.std.proofs.Common.{◌<◌, arith}
use Rattle.std.proofs.lemmas.Int.{ints}
use Rattle.heesch_region.specs.Windows.{wide}
use Rattle.heesch_region.proofs.Places.{pair_at, order_at, inside-is}
use Rattle.heesch_region.proofs.Boxes.{wide_few}
use Rattle.heesch_region.proofs.window.Window.pair.Goals as goal

pub returns : goal.returns
returns c =
    let w = c.args.self in
    let few = w.few in
    let a_low = w.low_a in
    let a_high = w.high_a in
    let b_low = w.low_b in
    let b_high = w.high_b in
    let most = wide_few w in
    let row : c.args.row < w.tall = c.requires.row in
    let column : c.args.column < wide w = c.requires.column in
    record {
      inside = inside-is w _ (pair_at w c.args.row c.args.column row column _ (omega (arith, ints, few, a_low, a_high, most, column)) (omega (arith, ints, b_low, b_high, row))).0;
      order = order_at w c.args.row c.args.column row column _ (omega (arith, ints, few, a_low, a_high, most, column)) (omega (arith, ints, b_low, b_high, row));
    }
