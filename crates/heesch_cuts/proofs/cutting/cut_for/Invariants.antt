use Rattle.std.proofs.Common.{◌≡◌, ◌<◌, ◌≤◌, ℕ, All}
use Rattle.heesch_grid.specs.Hole.{IsHoleFree}
use Rattle.heesch_grid.specs.Vectors.{IsWithin}
use Rattle.heesch_cuts.specs.Patches.{patch_cells}
use Rattle.heesch_cuts.proofs.cutting.cut_for.Given as goal

abbrev pub invariant-loop-k : goal.invariant-loop-k
invariant-loop-k g l =
    (l.cells.items ≡ patch_cells l.universe l.model l.k)
    × All (IsWithin 1000000) l.cells.items
    × ((i : ℕ) → 0 < i → i ≤ l.k → IsHoleFree g.G.Grid.geometry (patch_cells l.universe l.model i))
