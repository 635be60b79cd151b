use Rattle.std.proofs.Common.{ℕ, ◌<◌, get_or}
use Rattle.heesch_grid.specs.declared.isometries.Iso.{Iso}
use Rattle.heesch_grid.specs.Geometry.{IsIsometry}
use Rattle.heesch_audit.proofs.cover.are_isometries.Given as goal

abbrev pub invariant-loop-by : goal.invariant-loop-by
invariant-loop-by g l = (k : ℕ) (d : Iso) → k < l.by-index → IsIsometry g.G.Grid.geometry (get_or l.places k d)
