use Rattle.heesch_grid.proofs.SmallShapes.{as_expected}
use Rattle.heesch_grid.proofs.laws.small_shapes_are_as_expected.Goals as goal

pub returns : goal.returns
returns c = as_expected
