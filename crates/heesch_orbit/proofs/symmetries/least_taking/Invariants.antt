use Rattle.std.proofs.Common.{◌<◌}
use Rattle.heesch_grid.specs.declared.isometries.Iso.{Iso}
use Rattle.heesch_grid.specs.Symmetry.{TakesExactly}
use Rattle.heesch_orbit.proofs.symmetries.least_taking.Given as goal

abbrev pub invariant-loop-k : goal.invariant-loop-k
invariant-loop-k g l =
    (other : Iso) → other.turn < l.k → TakesExactly g.G.Grid.geometry l.turned l.triple l.places l.from l.to other → ⊥
