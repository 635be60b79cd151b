use Rattle.heesch_index.proofs.MarkFacts.{IsListed}
use Rattle.heesch_index.proofs.marks.CellMarks.cells.Given as goal

abbrev pub invariant-loop-place : goal.invariant-loop-place
invariant-loop-place l = IsListed l.self-inside.bounds l.self-inside.marks.items l.place l.cells.items
