use Rattle.std.proofs.Common.{to_z, of_z, w32, arith}
use Rattle.std.proofs.lemmas.Int.{ints}
use Rattle.heesch_region.proofs.Places.{distance}
use Rattle.heesch_region.proofs.window.distance.Goals as goal

pub returns : goal.returns
returns c = let d = distance (to_z w32 (of_z w32 c.args.low)) (to_z w32 (of_z w32 c.args.high)) (omega (arith, ints)) in let e = c.abs_diff.ensures in omega (arith, ints, d, e)
