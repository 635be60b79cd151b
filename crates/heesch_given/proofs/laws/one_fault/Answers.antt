use Rattle.heesch_given.proofs.OneFault.{one_fault}
use Rattle.heesch_given.proofs.laws.one_fault.Goals as goal

pub returns : goal.returns
returns c = one_fault
