use Rattle.std.proofs.Common.{◌≤◌}
use Rattle.heesch_cdcl.proofs.decisions.open_below.Given as goal

abbrev pub invariant-loop-lit : goal.invariant-loop-lit
invariant-loop-lit l = l.open ≤ l.lit-index
