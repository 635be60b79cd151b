use Rattle.std.proofs.Common.{◌≡◌}
use Rattle.heesch_periods.proofs.table.tiles_of.Given as goal

abbrev pub invariant-loop-list : goal.invariant-loop-list
invariant-loop-list l = l.holders.bound ≡ l.vars
