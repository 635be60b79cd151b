use Rattle.std.proofs.Common.{◌≢◌, ℕ, ◌≤◌, []}
use Rattle.heesch_cnf.specs.Lines.{numbered}
use Rattle.heesch_judge.proofs.empty.first_empty.Given as goal

abbrev pub invariant-loop-index : goal.invariant-loop-index
invariant-loop-index g l = (k : ℕ) → 1 ≤ k → k ≤ l.index → numbered (g.N.ClauseSource.listed l.formula).clauses k ≢ []
