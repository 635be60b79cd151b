use Rattle.heesch_grid.proofs.FromDefinitions.{cells_have_one_reduced_cell}
use Rattle.heesch_grid.proofs.laws.cells_have_one_reduced_cell.Goals as goal

pub returns : goal.returns
returns c = cells_have_one_reduced_cell
