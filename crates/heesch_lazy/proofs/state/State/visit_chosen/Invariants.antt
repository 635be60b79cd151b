use Rattle.std.proofs.Common.{◌≡◌}
use Rattle.heesch_lazy.proofs.state.State.visit_chosen.Given as goal

abbrev pub invariant-loop-place : goal.invariant-loop-place
invariant-loop-place l = l.self.table.vars ≡ l.fn.self.table.vars

abbrev pub invariant-loop-place-2 : goal.invariant-loop-place-2
invariant-loop-place-2 l = l.self.table.vars ≡ l.fn.self.table.vars
