use Rattle.std.proofs.Common.{◌≡◌, take}
use Rattle.heesch_grid.specs.Corona.{cells_of}
use Rattle.heesch_corona.proofs.holes.patch_cells.Given as goal

abbrev pub invariant-loop-at : goal.invariant-loop-at
invariant-loop-at l = l.cells.items ≡ cells_of (take l.at l.index)
