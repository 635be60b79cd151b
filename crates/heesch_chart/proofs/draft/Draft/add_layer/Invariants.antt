use Rattle.std.proofs.Common.{◌≡◌}
use Rattle.heesch_chart.proofs.draft.Draft.add_layer.Given as goal

abbrev pub invariant-loop-before : goal.invariant-loop-before
invariant-loop-before g l = l.self.table.vars ≡ l.initial.self.table.vars
