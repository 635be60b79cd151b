use Rattle.std.proofs.Common.{◌≡◌}
use Rattle.heesch_lazy.proofs.log.CoverLog.add_lines.Given as goal

abbrev pub invariant-loop-index : goal.invariant-loop-index
invariant-loop-index l = l.self.vars ≡ l.fn.self.vars
