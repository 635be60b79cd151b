use Rattle.std.proofs.Common.{◌≡◌, ◌<◌, ◌*◌, ◌==◌, ◌&&◌, ℕ, length}
use Rattle.heesch_region.specs.Bits.{bit_of}
use Rattle.heesch_region.specs.Windows.{is_inner, cell_of}
use Rattle.heesch_region.proofs.flood.all_cells.Given as goal

abbrev pub invariant-loop-number : goal.invariant-loop-number
invariant-loop-number g l = record {
  long : length l.words.items ≡ l.number;
  marks : (n : ℕ) → n < 64 * l.number → (bit_of l.words.items n == 1) ≡ (is_inner l.window (cell_of l.window n) && g.G.Grid.geometry.is_cell (cell_of l.window n));
}
