use Rattle.heesch_grow.proofs.Generated.{grown_are_polyforms}
use Rattle.heesch_grow.proofs.laws.grown_are_polyforms.Goals as goal

pub returns : goal.returns
returns c = grown_are_polyforms
