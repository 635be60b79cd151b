use Rattle.std.proofs.Common.{◌≤◌, length}
use Rattle.heesch_cdcl.proofs.decisions.fewest_in.Given as goal

abbrev pub invariant-loop-number : goal.invariant-loop-number
invariant-loop-number l = l.best.number ≤ length l.trail.clauses
