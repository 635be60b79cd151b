use Rattle.std.proofs.Common.{◌≡◌, ◌<◌, ◌*◌, ◌+◌, ◌-◌, ℕ, true, false, sum, Some}
use Rattle.std.specs.List.{slice_get}
use Rattle.heesch_grid.specs.declared.Cell.{Cell}
use Rattle.heesch_region.specs.Bits.{AreSettled}
use Rattle.heesch_region.specs.Windows.{is_marked, place}
use Rattle.heesch_region.specs.Floods.{IsNarrowed}
use Rattle.heesch_region.proofs.flood.narrow_strip.Given as goal

abbrev pub invariant-loop-i : goal.invariant-loop-i
invariant-loop-i g l = record {
  narrowed : IsNarrowed g.G.Grid.geometry (is_marked l.window l.taken) (is_marked l.window l.initial.kept) (is_marked l.window l.kept);
  fewer : l.cleared ≡ true → sum l.kept < sum l.initial.kept;
  same : l.cleared ≡ false → l.kept ≡ l.initial.kept;
  settled : l.cleared ≡ false → (k : ℕ) → k < l.i → (d : Cell) → slice_get (g.G.Grid.geometry.adjacent l.first) k ≡ Some d → AreSettled l.taken l.initial.kept (l.strip * l.window.words + 1) (place l.window d) (64 * (l.window.words - 2));
}
