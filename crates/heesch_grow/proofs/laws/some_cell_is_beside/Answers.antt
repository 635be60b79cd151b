use Rattle.heesch_grow.proofs.Beside.{some_cell_is_beside}
use Rattle.heesch_grow.proofs.laws.some_cell_is_beside.Goals as goal

pub returns : goal.returns
returns c = some_cell_is_beside
