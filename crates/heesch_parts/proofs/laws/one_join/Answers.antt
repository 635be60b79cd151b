use Rattle.heesch_parts.proofs.OneJoin.{one_join}
use Rattle.heesch_parts.proofs.laws.one_join.Goals as goal

pub returns : goal.returns
returns c = one_join
