use Rattle.std.proofs.Common.{take}
use Rattle.heesch_index.specs.Entries.{RemovesAtEach}
use Rattle.heesch_index.proofs.entries.leave.Given as goal

abbrev pub invariant-loop-cell : goal.invariant-loop-cell
invariant-loop-cell l = RemovesAtEach l.initial.numbers l.numbers (take l.cell-index l.cells)
