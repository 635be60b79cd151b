use Rattle.heesch_table.proofs.OneTally.{one_tally}
use Rattle.heesch_table.proofs.laws.one_tally.Goals as goal

pub returns : goal.returns
returns c = one_tally
