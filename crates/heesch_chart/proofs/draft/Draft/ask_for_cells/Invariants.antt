use Rattle.std.proofs.Common.{◌≡◌}
use Rattle.heesch_chart.proofs.draft.Draft.ask_for_cells.Given as goal

abbrev pub invariant-loop-i : goal.invariant-loop-i
invariant-loop-i l = l.self.table.vars ≡ l.initial.self.table.vars
