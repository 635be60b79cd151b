use Rattle.heesch_grid.proofs.FromDefinitions.{plain_tilings_are_unique}
use Rattle.heesch_grid.proofs.laws.plain_tilings_are_unique.Goals as goal

pub returns : goal.returns
returns c = plain_tilings_are_unique
