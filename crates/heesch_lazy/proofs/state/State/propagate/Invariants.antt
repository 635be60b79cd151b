use Rattle.std.proofs.Common.{◌≡◌}
use Rattle.heesch_lazy.proofs.state.State.propagate.Given as goal

abbrev pub invariant-loop : goal.invariant-loop
invariant-loop l = l.self.table.vars ≡ l.fn.self.table.vars
