use Rattle.heesch_reader.proofs.NoFault.{no_fault}
use Rattle.heesch_reader.proofs.laws.standing_texts_have_no_fault.Goals as goal

pub returns : goal.returns
returns c = no_fault
