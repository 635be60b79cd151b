use Rattle.std.proofs.Common.{take}
use Rattle.heesch_index.specs.Entries.{AddsAtEach}
use Rattle.heesch_index.proofs.entries.enter.Given as goal

abbrev pub invariant-loop-i : goal.invariant-loop-i
invariant-loop-i l = AddsAtEach l.initial.numbers l.numbers (take l.i l.cells) l.number
