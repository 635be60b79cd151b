use Rattle.heesch_written.proofs.Holes.{holes_are_near}
use Rattle.heesch_written.proofs.laws.holes_are_near.Goals as goal

pub returns : goal.returns
returns c = holes_are_near
