use Rattle.std.proofs.Common.{ℕ, ◌<◌, ◌≤◌}
use Rattle.heesch_corona.specs.Searches.{DoReach}
use Rattle.heesch_corona.proofs.touching.first_loose.Given as goal

abbrev pub invariant-loop-level : goal.invariant-loop-level
invariant-loop-level g l = (k : ℕ) → 1 ≤ k → k < l.level → DoReach g.G.Grid.geometry l.index l.ends k
