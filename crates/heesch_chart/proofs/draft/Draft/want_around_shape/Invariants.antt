use Rattle.std.proofs.Common.{◌≡◌}
use Rattle.heesch_chart.proofs.draft.Draft.want_around_shape.Given as goal

abbrev pub invariant-loop-c : goal.invariant-loop-c
invariant-loop-c g l = l.self.table.vars ≡ l.initial.self.table.vars
