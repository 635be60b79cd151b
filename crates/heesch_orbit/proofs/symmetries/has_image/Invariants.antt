use Rattle.std.proofs.Common.{ℕ, ◌<◌, get_or}
use Rattle.heesch_grid.specs.declared.isometries.Iso.{Iso}
use Rattle.heesch_grid.specs.Geometry.{image}
use Rattle.heesch_grid.specs.Symmetry.{CarriesToTranslate}
use Rattle.heesch_orbit.proofs.symmetries.has_image.Given as goal

abbrev pub invariant-loop-to : goal.invariant-loop-to
invariant-loop-to g l =
    (k : ℕ) (d : Iso) → k < l.to-index → CarriesToTranslate g.G.Grid.geometry l.triple l.by (image g.G.Grid.geometry l.from l.turned) (image g.G.Grid.geometry (get_or l.places k d) l.turned) → ⊥
