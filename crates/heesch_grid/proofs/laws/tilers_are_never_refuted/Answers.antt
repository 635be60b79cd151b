use Rattle.heesch_grid.proofs.FromDefinitions.{tilers_are_never_refuted}
use Rattle.heesch_grid.proofs.laws.tilers_are_never_refuted.Goals as goal

pub returns : goal.returns
returns c = tilers_are_never_refuted
