use Rattle.std.proofs.Common.{rules, ◌<◌, ◌^◌, w64, arith}
use Rattle.std.specs.Int.{bit_not}
use Rattle.heesch_exact.proofs.Bits.{first_point, first_among, point_without}
use Rattle.heesch_exact.proofs.counts.Counts.rarest.Goals as goal
use Rattle.heesch_exact.proofs.counts.Counts.rarest.Goals.{then-single-ne0, else-single-ne0+then-double-ne0, else-single-ne0+else-double-ne0}

pub returns-then-left-self-ne0 : goal.returns-then-left-self-ne0
returns-then-left-self-ne0 c =
    let small : c.args.self.now.one < 2 ^ 64 = search rules in
    point_without c.args.left c.args.self.now.one c.ranges.left.fits small c.if-left-self-ne0.true

pub returns : goal.returns
returns c = elim c.if-single-ne0.branch [
  | then-single-ne0 w ↦ rw w.rare-is (first_among c.args.left (bit_not w64 c.args.self.now.two) c.ranges.left.fits w.if-single-ne0.true)
  | else-single-ne0+then-double-ne0 w ↦ rw w.rare-is (first_among c.args.left (bit_not w64 c.args.self.now.three) c.ranges.left.fits w.if-double-ne0.true)
  | else-single-ne0+else-double-ne0 w ↦ rw w.rare-is (first_point c.args.left c.args.left c.requires c.ranges.left.fits (λ k. omega arith))
]
