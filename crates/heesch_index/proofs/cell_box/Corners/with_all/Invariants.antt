use Rattle.std.proofs.Common.{take}
use Rattle.heesch_index.specs.Marking.{Span}
use Rattle.heesch_index.proofs.cell_box.Corners.with_all.Given as goal

abbrev pub invariant-loop-cell : goal.invariant-loop-cell
invariant-loop-cell l =
    Span l.initial.corners.low l.initial.corners.high (take l.cell-index l.cells) l.corners.low l.corners.high
