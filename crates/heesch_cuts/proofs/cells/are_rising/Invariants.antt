use Rattle.std.proofs.Common.{◌≡◌, true}
use Rattle.std.specs.List.{AllAdjacentBelow}
use Rattle.heesch_grid.specs.Cells.{cell_before}
use Rattle.heesch_cuts.proofs.cells.are_rising.Given as goal

abbrev pub invariant-loop-i : goal.invariant-loop-i
invariant-loop-i l = AllAdjacentBelow (λ x y. cell_before x y ≡ true) l.cells l.i
