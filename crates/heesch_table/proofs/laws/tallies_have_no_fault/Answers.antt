use Rattle.heesch_table.proofs.OneTabulation.{apart}
use Rattle.heesch_table.proofs.laws.tallies_have_no_fault.Goals as goal

pub returns : goal.returns
returns c = apart
