use Rattle.std.proofs.Common.{◌≡◌, ◌<◌, ℕ, Some}
use Rattle.std.specs.List.{slice_get}
use Rattle.heesch_grid.specs.declared.isometries.Iso.{Iso}
use Rattle.heesch_grid.specs.Symmetry.{TakesExactly}
use Rattle.heesch_orbit.proofs.classing.known_member.Given as goal

abbrev pub invariant-loop-i : goal.invariant-loop-i
invariant-loop-i g l =
    (k : ℕ) (from by : Iso) → k < l.i → slice_get l.representatives k ≡ Some from → TakesExactly g.G.Grid.geometry l.turned l.triple l.places from l.to by → ⊥
