use Rattle.std.proofs.Common.{ℕ, ◌<◌, get_or}
use Rattle.heesch_grid.specs.declared.isometries.Iso.{Iso}
use Rattle.heesch_corona.specs.Tiles.{IsInRange as IsTile}
use Rattle.heesch_tiling.specs.Counting.{IsInRange}
use Rattle.heesch_geometry_tests.proofs.tests.made.are_in_range.Given as goal

abbrev pub invariant-loop-by : goal.invariant-loop-by
invariant-loop-by g l = (k : ℕ) (d : Iso) → k < l.by-index → IsInRange g.G.Grid.geometry (get_or l.isos k d) × IsTile g.G.Grid.geometry (get_or l.isos k d)
