use Rattle.std.proofs.Common.{◌<◌, ◌≤◌, ℕ, [], get_or, map, Contains}
use Rattle.heesch_grid.specs.Vectors.{IsWithin, minus}
use Rattle.heesch_place.specs.declared.spots.Spot.{Spot}
use Rattle.heesch_place.specs.Spots.{head_of}
use Rattle.heesch_place.proofs.prototile.reach_of.Given as goal

abbrev pub invariant-loop-form : goal.invariant-loop-form
invariant-loop-form g l = record {
  reach : (k : ℕ) (spot : Spot) → k < l.form → Contains (get_or (map (λ v. v.items) l.beside) k []) spot → IsWithin l.reach (minus spot.first (head_of (get_or l.forms.forms k [])));
  small : l.reach ≤ 30000;
}
