use Rattle.std.proofs.Common.{ℕ, ◌<◌, ◌≤◌}
use Rattle.heesch_corona.specs.Searches.{IsWhole}
use Rattle.heesch_corona.proofs.holes.first_hole.Given as goal

abbrev pub invariant-loop-level : goal.invariant-loop-level
invariant-loop-level g l = (k : ℕ) → 1 ≤ k → k < l.level → IsWhole g.G.Grid.geometry l.index l.ends k
