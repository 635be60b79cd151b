use Rattle.std.proofs.Common.{◌≡◌, length}
use Rattle.heesch_chart.proofs.table.filled.Given as goal

abbrev pub invariant-loop-below : goal.invariant-loop-below
invariant-loop-below g l = l.draft.table.vars ≡ length l.plan.universe.now.vars
