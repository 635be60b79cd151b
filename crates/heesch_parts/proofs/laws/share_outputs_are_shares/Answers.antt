use Rattle.heesch_parts.proofs.AllShares.{outputs_are_shares}
use Rattle.heesch_parts.proofs.laws.share_outputs_are_shares.Goals as goal

pub returns : goal.returns
returns c = outputs_are_shares
