use Rattle.std.proofs.Common.{arith}
use Rattle.heesch_io.proofs.Pieces.{start-end, end-size}
use Rattle.heesch_cdcl.proofs.covers.bounds.Goals as goal

pub returns-clause-rising : goal.returns-clause-rising
returns-clause-rising c =
    let e = c.requires.ends in
    let le = start-end 0 c.args.ends.now e.size c.args.index e.cut c.requires.index in
    grind (arith, le)

pub returns-clause-within : goal.returns-clause-within
returns-clause-within c =
    let e = c.requires.ends in
    let le = end-size 0 c.args.ends.now e.size c.args.index e.cut c.requires.index in
    let below = e.below in
    grind (arith, le, below)
