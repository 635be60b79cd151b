use Rattle.std.proofs.Common.{◌≤◌, ◌-◌}
use Rattle.heesch_table.proofs.Answering.{Going}
use Rattle.heesch_table.proofs.tabulation.tabulate.Given as goal

abbrev pub invariant-loop-items : goal.invariant-loop-items
invariant-loop-items g l = Going (g.R.Source.left l.fn.source) (g.R.Source.left l.source) l.stream l.table × (g.R.Source.faults l.fn.source ≤ g.R.Source.faults l.source)

abbrev pub decreases-loop-items : goal.decreases-loop-items
decreases-loop-items g l = 1099511627776 - l.stream.count
