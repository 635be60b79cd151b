use Rattle.std.proofs.Common.{◌≡◌, ℤ, pos, false, ◌≤ℤ◌, ◌<ℤ◌}
use Rattle.heesch_grid.specs.Cells.{cell}
use Rattle.heesch_grow.proofs.block.first_cell.Given as goal

abbrev pub invariant-loop-b : goal.invariant-loop-b
invariant-loop-b g l =
    record { low : pos 0 ≤ℤ l.b; none : (a b : ℤ) → pos 0 ≤ℤ a → a <ℤ pos g.G.Grid.geometry.unit → pos 0 ≤ℤ b → b <ℤ l.b → g.G.Grid.geometry.is_cell (cell a b) ≡ false }
