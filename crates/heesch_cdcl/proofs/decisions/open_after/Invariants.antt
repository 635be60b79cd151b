use Rattle.std.proofs.Common.{ℕ, ◌<◌, ◌≤◌, ◌≢◌, None}
use Rattle.heesch_trail.specs.State.{values_of}
use Rattle.heesch_cdcl.proofs.decisions.open_after.Given as goal

abbrev pub invariant-loop-before : goal.invariant-loop-before
invariant-loop-before l = (v : ℕ) → l.passed < v → v ≤ l.before → values_of l.trail.steps v ≢ None
