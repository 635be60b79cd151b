use Rattle.std.proofs.Common.{◌≡◌}
use Rattle.heesch_lazy.proofs.state.State.deny_askers.Given as goal

abbrev pub invariant-loop-before : goal.invariant-loop-before
invariant-loop-before l = l.self.table.vars ≡ l.fn.self.table.vars
