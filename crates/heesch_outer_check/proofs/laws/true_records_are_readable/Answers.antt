use Rattle.heesch_outer_check.proofs.Records.{readable}
use Rattle.heesch_outer_check.proofs.laws.true_records_are_readable.Goals as goal

pub returns : goal.returns
returns c = readable
