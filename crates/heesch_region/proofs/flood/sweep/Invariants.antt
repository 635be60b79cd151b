use Rattle.std.proofs.Common.{◌≡◌, ◌<◌, ◌*◌, ◌+◌, ℕ, true, false, sum}
use Rattle.heesch_region.specs.Windows.{is_marked}
use Rattle.heesch_region.specs.Floods.{IsNarrowed, IsSettled, counted}
use Rattle.heesch_region.proofs.flood.sweep.Given as goal

abbrev pub invariant-loop-number : goal.invariant-loop-number
invariant-loop-number g l = record {
  narrowed : IsNarrowed g.G.Grid.geometry (is_marked l.window l.taken) (is_marked l.window l.initial.kept) (is_marked l.window l.kept);
  fewer : l.cleared ≡ true → sum l.kept < sum l.initial.kept;
  same : l.cleared ≡ false → l.kept ≡ l.initial.kept;
  settled : l.cleared ≡ false → (k : ℕ) → k < l.number → IsSettled g.G.Grid.geometry l.window (is_marked l.window l.taken) (is_marked l.window l.initial.kept) (4 * l.window.unit + counted l.upward l.count k);
}
