use Rattle.std.proofs.Common.{◌≡◌}
use Rattle.heesch_lazy.proofs.state.State.open.Given as goal

abbrev pub invariant-loop-place : goal.invariant-loop-place
invariant-loop-place l = l.self.table.vars ≡ l.fn.self.table.vars
