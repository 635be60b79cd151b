use Rattle.heesch_grid.proofs.FromDefinitions.{fewer_coronas_exist, heesch_numbers_are_unique, heesch_numbers_lie_below}
use Rattle.heesch_grid.proofs.laws.heesch_numbers_are_unique.Goals as goal

pub returns : goal.returns
returns c = record { fewer = fewer_coronas_exist; once = heesch_numbers_are_unique; below = heesch_numbers_lie_below }
