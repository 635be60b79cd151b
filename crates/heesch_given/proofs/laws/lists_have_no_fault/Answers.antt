use Rattle.heesch_given.proofs.OneFault.{no_fault}
use Rattle.heesch_given.proofs.laws.lists_have_no_fault.Goals as goal

pub returns : goal.returns
returns c = no_fault
