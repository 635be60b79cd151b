use Rattle.std.proofs.Common.{◌≡◌, ℕ, ◌<◌, length}
use Rattle.heesch_tiling.specs.Counting.{spot}
use Rattle.heesch_tiling.specs.Search.{CoversTurned}
use Rattle.heesch_tiling.proofs.search.first_marked_shift.Given as goal

abbrev pub invariant-loop-k : goal.invariant-loop-k
invariant-loop-k g l =
    record { same : length l.marks ≡ length l.base; none : (j : ℕ) → j < l.k → ¬ CoversTurned g.G.Grid.geometry l.cells l.triple (spot l.triple.p j) }
