use Rattle.heesch_grid.proofs.SymmetryFacts.{symmetries_compose}
use Rattle.heesch_grid.proofs.laws.symmetries_compose.Goals as goal

pub returns : goal.returns
returns c = symmetries_compose
