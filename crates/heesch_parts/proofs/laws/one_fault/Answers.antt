use Rattle.heesch_parts.proofs.OneFault.{one_fault}
use Rattle.heesch_parts.proofs.laws.one_fault.Goals as goal

pub returns : goal.returns
returns c = one_fault
