use Rattle.std.proofs.Common.{◌≡◌}
use Rattle.heesch_chart.proofs.table.tiles_of.Given as goal

abbrev pub invariant-loop-before : goal.invariant-loop-before
invariant-loop-before g l = l.tiles.count ≡ l.before
