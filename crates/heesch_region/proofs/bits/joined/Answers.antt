use Rattle.heesch_region.proofs.Rows.{join_low, join_high}
use Rattle.heesch_region.proofs.bits.joined.Goals as goal

pub returns-clause-low : goal.returns-clause-low
returns-clause-low c j l = join_low c.args.low c.args.high c.args.from j l

pub returns-clause-high : goal.returns-clause-high
returns-clause-high c j less l = join_high c.args.low c.args.high c.args.from j c.ranges.low.fits c.requires less l
