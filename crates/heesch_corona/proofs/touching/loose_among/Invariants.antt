use Rattle.std.proofs.Common.{◌≡◌, ℕ, ◌<◌, ◌≤◌, true}
use Rattle.heesch_corona.specs.Searches.{does_reach}
use Rattle.heesch_grid.specs.Cells.{set_of}
use Rattle.heesch_corona.proofs.touching.loose_among.Given as goal

abbrev pub invariant-loop-at : goal.invariant-loop-at
invariant-loop-at g l = (n : ℕ) → l.inner < n → n ≤ l.at → does_reach g.G.Grid.geometry l.index (set_of l.index n) l.inner ≡ true
