use Rattle.std.proofs.Common.{◌≡◌, take}
use Rattle.heesch_grid.specs.declared.Cell.{Cell}
use Rattle.heesch_grid.specs.Cells.{has}
use Rattle.heesch_index.specs.Marking.{is_marked}
use Rattle.heesch_index.proofs.marks.CellMarks.of.Given as goal

abbrev pub invariant-loop-cell : goal.invariant-loop-cell
invariant-loop-cell l =
    (l.marks.low ≡ l.initial.marks.low) × (l.marks.high ≡ l.initial.marks.high) × ((c : Cell) → is_marked l.marks c ≡ has (take l.cell-index l.cells) c)
