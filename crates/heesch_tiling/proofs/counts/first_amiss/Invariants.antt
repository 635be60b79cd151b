use Rattle.std.proofs.Common.{◌≡◌, ℕ, ◌<◌, false}
use Rattle.heesch_tiling.specs.Counting.{is_amiss_at}
use Rattle.heesch_tiling.proofs.counts.first_amiss.Given as goal

abbrev pub invariant-loop-k : goal.invariant-loop-k
invariant-loop-k g l = (j : ℕ) → j < l.k → is_amiss_at g.G.Grid.geometry l.triple l.counts l.low l.most j ≡ false
