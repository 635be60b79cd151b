use Rattle.heesch_grid.proofs.FromDefinitions.{greatest_holes_are_holes}
use Rattle.heesch_grid.proofs.laws.greatest_holes_are_holes.Goals as goal

pub returns : goal.returns
returns c = greatest_holes_are_holes
