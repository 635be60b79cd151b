use Rattle.std.proofs.Common.{◌≤◌, ℕ, take, Contains}
use Rattle.heesch_grid.specs.Vectors.{IsWithin}
use Rattle.heesch_place.specs.declared.spots.Spot.{Spot}
use Rattle.heesch_place.proofs.spots.radius_of.Given as goal

abbrev pub invariant-loop-spot : goal.invariant-loop-spot
invariant-loop-spot l = record {
  within : (spot : Spot) → Contains (take l.spot-index l.spots) spot → IsWithin l.radius spot.first;
  bound : (n : ℕ) → ((spot : Spot) → Contains l.spots spot → IsWithin n spot.first) → l.radius ≤ n;
}
