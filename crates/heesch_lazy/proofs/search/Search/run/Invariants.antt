use Rattle.std.proofs.Common.{◌≡◌}
use Rattle.heesch_lazy.proofs.search.Search.run.Given as goal

abbrev pub invariant-loop : goal.invariant-loop
invariant-loop l = l.self.vars ≡ l.fn.self.vars
