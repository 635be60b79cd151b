use Rattle.heesch_trail.proofs.Enlisted.{More-entry}
use Rattle.heesch_trail.proofs.watches.Watches.enlist.Goals as goal

pub returns-2-clause-more : goal.returns-2-clause-more
returns-2-clause-more c =
    let e = c.new.ensures in
    More-entry c.push.result c.args.self.now c.push.new.self c.args.lit c.new.result c.args.index c.args.beside c.args.binary c.requires.fits (record { index_is = e.index; blocker_is = e.blocker; binary_is = e.binary }) c.push.ensures.ok c.push.ensures.err
