use Rattle.std.proofs.Common.{ap, arith}
use Rattle.std.specs.Prelude.{sum}
use Rattle.heesch_numbers.proofs.Counting.{sum-gaps}
use Rattle.heesch_numbers.proofs.prefix.Prefix.total.Goals as goal

pub returns : goal.returns
returns c =
    let s = sum-gaps 0 c.self.inside.ends.items c.self.inside.total c.self.invariant in
    let v = ap sum c.self.view_is in
    omega (arith, s, v)
