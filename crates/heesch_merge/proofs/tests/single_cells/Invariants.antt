use Rattle.std.proofs.Common.{All}
use Rattle.heesch_grid.specs.Cells.{cells_before}
use Rattle.heesch_grid.specs.Listing.{IsRising}
use Rattle.heesch_merge.proofs.tests.single_cells.Given as goal

abbrev pub invariant-loop-number : goal.invariant-loop-number
invariant-loop-number l = All (λ list. IsRising cells_before list.items) l.lists.items
