use Rattle.heesch_table.proofs.OneTabulation.{one_fault}
use Rattle.heesch_table.proofs.laws.one_fault.Goals as goal

pub returns : goal.returns
returns c = one_fault
