use Rattle.std.proofs.Common.{length}
use Rattle.heesch_reader.proofs.Bytes.{Going}
use Rattle.heesch_reader.proofs.scanning.take_bytes.Given as goal

abbrev pub invariant-loop-line : goal.invariant-loop-line
invariant-loop-line l = Going l.fn.scan l.scan l.fn.items l.items l.piece l.rest

abbrev pub decreases-loop-line : goal.decreases-loop-line
decreases-loop-line l = length l.rest
