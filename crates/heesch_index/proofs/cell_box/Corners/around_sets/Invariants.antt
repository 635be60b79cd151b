use Rattle.std.proofs.Common.{◌≡◌, ◌<◌, ℕ, [], true, get_or}
use Rattle.heesch_grid.specs.declared.Cell.{Cell}
use Rattle.heesch_grid.specs.Cells.{has}
use Rattle.heesch_index.specs.Marking.{IsBetween}
use Rattle.heesch_index.proofs.cell_box.Corners.around_sets.Given as goal

abbrev pub invariant-loop-i : goal.invariant-loop-i
invariant-loop-i l =
    (k : ℕ) (c : Cell) → k < l.i → has (get_or l.sets k []) c ≡ true → IsBetween l.corners.low l.corners.high c
