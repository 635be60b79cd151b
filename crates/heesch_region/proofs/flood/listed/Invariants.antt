use Rattle.std.proofs.Common.{◌*◌}
use Rattle.heesch_region.specs.Windows.{wide}
use Rattle.heesch_region.specs.Marks.{IsListed}
use Rattle.heesch_region.proofs.flood.listed.Given as goal

abbrev pub invariant-loop-row : goal.invariant-loop-row
invariant-loop-row l = IsListed l.window l.kept l.taken (l.row * wide l.window) l.cells
