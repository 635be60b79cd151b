use Rattle.std.proofs.Common.{◌+◌, ◌*◌}
use Rattle.heesch_region.specs.Windows.{wide}
use Rattle.heesch_region.specs.Marks.{IsListed}
use Rattle.heesch_region.proofs.flood.list_row.Given as goal

abbrev pub invariant-loop-column : goal.invariant-loop-column
invariant-loop-column l = IsListed l.window l.kept l.taken (l.row * wide l.window + l.column) l.cells
