use Rattle.std.proofs.Common.{◌≤◌, ◌+◌, ◌-◌, length}
use Rattle.std.specs.Io.KnownBytes.{Consumes}
use Rattle.heesch_reader.specs.Taking.{input_max}
use Rattle.heesch_app.proofs.reading.read_front.Given as goal

abbrev pub invariant-loop-piece : goal.invariant-loop-piece
invariant-loop-piece g l =
    Consumes (g.R.Source.left l.fn.source) (g.R.Source.left l.source) l.bytes.items × (length l.bytes.items ≤ input_max + 1) × (g.R.Source.faults l.fn.source ≤ g.R.Source.faults l.source)

abbrev pub decreases-loop-piece : goal.decreases-loop-piece
decreases-loop-piece g l = input_max + 1 - length l.bytes.items
