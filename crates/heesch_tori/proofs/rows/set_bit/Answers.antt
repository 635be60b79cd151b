use Rattle.heesch_encode.proofs.Marking.{marking_one}
use Rattle.heesch_tori.proofs.rows.set_bit.Goals as goal

pub returns : goal.returns
returns c = marking_one c.args.words.now c.args.number c.requires
