use Rattle.std.proofs.Common.{arith}
use Rattle.heesch_io.proofs.Pieces.{start-end, end-size}
use Rattle.heesch_cnf.proofs.flat.bounds.Goals as goal

pub returns-clause-rising : goal.returns-clause-rising
returns-clause-rising c = let le = start-end 0 c.args.ends.now c.args.size c.args.index c.requires.ends c.requires.index in grind (arith, le)

pub returns-clause-within : goal.returns-clause-within
returns-clause-within c = let le = end-size 0 c.args.ends.now c.args.size c.args.index c.requires.ends c.requires.index in grind (arith, le)
