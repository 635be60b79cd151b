use Rattle.heesch_region.proofs.Rows.{set_here, set_other}
use Rattle.heesch_region.proofs.bits.set_bit.Goals as goal

pub returns-clause-here : goal.returns-clause-here
returns-clause-here c = set_here c.args.words.now c.args.number c.requires

pub returns-clause-other : goal.returns-clause-other
returns-clause-other c n ne = set_other c.args.words.now c.args.number c.requires n ne
