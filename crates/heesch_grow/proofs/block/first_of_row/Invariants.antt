use Rattle.std.proofs.Common.{◌≡◌, ℤ, pos, false, ◌≤ℤ◌, ◌<ℤ◌}
use Rattle.heesch_grid.specs.Cells.{cell}
use Rattle.heesch_grow.proofs.block.first_of_row.Given as goal

abbrev pub invariant-loop-a : goal.invariant-loop-a
invariant-loop-a g l =
    record { low : pos 0 ≤ℤ l.a; none : (a : ℤ) → pos 0 ≤ℤ a → a <ℤ l.a → g.G.Grid.geometry.is_cell (cell a l.b) ≡ false }
