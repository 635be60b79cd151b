use Rattle.heesch_grow.proofs.Generated.{grown_are_determined}
use Rattle.heesch_grow.proofs.laws.grown_are_determined.Goals as goal

pub returns : goal.returns
returns c = grown_are_determined
