use Rattle.std.proofs.Common.{◌≤◌, length}
use Rattle.heesch_cdcl.proofs.workspace.Workspace.fewest_open.Given as goal

abbrev pub invariant-loop-place : goal.invariant-loop-place
invariant-loop-place l = l.best.number ≤ length l.self.trail.clauses
