use Rattle.heesch_parts.proofs.NoFault.{shares_have_no_fault}
use Rattle.heesch_parts.proofs.laws.shares_have_no_fault.Goals as goal

pub returns : goal.returns
returns c = shares_have_no_fault
