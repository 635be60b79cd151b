use Rattle.heesch_parts.proofs.OneJoin.{joined_text}
use Rattle.heesch_parts.proofs.laws.joined_are_catalogues.Goals as goal

pub returns : goal.returns
returns c = joined_text
