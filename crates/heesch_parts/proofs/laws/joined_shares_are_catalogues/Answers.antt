use Rattle.heesch_parts.proofs.AllShares.{joined_are_catalogues}
use Rattle.heesch_parts.proofs.laws.joined_shares_are_catalogues.Goals as goal

pub returns : goal.returns
returns c = joined_are_catalogues
