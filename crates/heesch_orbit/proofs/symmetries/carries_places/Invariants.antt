use Rattle.std.proofs.Common.{ℕ, ◌<◌, get_or}
use Rattle.heesch_grid.specs.declared.isometries.Iso.{Iso}
use Rattle.heesch_orbit.specs.Symmetries.{HasImage}
use Rattle.heesch_orbit.proofs.symmetries.carries_places.Given as goal

abbrev pub invariant-loop-from : goal.invariant-loop-from
invariant-loop-from g l =
    (k : ℕ) (d : Iso) → k < l.from-index → HasImage g.G.Grid.geometry l.turned l.triple l.places l.by (get_or l.places k d)
