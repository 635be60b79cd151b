use Rattle.std.proofs.Common.{drop}
use Rattle.heesch_rup.specs.Assigned.{OthersAreOpen}
use Rattle.heesch_rup.proofs.assignment.open_each.Given as goal

abbrev pub invariant-loop-variable : goal.invariant-loop-variable
invariant-loop-variable l = OthersAreOpen l.values (drop l.variable-index l.variables)
