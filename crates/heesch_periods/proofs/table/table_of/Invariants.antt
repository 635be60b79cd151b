use Rattle.std.proofs.Common.{◌≡◌}
use Rattle.heesch_periods.proofs.table.table_of.Given as goal

abbrev pub invariant-loop-index : goal.invariant-loop-index
invariant-loop-index l = l.table.vars ≡ l.vars
