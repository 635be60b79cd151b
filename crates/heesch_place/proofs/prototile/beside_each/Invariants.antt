use Rattle.std.proofs.Common.{◌≡◌, ◌<◌, ℕ, [], length, get_or, map, Contains}
use Rattle.heesch_grid.specs.Listing.{ListsExactly}
use Rattle.heesch_grid.specs.Vectors.{IsWithin}
use Rattle.heesch_place.specs.declared.spots.Spot.{Spot}
use Rattle.heesch_place.specs.Spots.{IsBeside, spot_before}
use Rattle.heesch_place.proofs.prototile.beside_each.Given as goal

abbrev pub invariant-loop-form : goal.invariant-loop-form
invariant-loop-form g l = record {
  long : length (map (λ v. v.items) l.all.items) ≡ l.form;
  each : (k : ℕ) → k < l.form → ListsExactly spot_before (IsBeside g.G.Grid.geometry l.forms.forms (get_or l.forms.forms k [])) (get_or (map (λ v. v.items) l.all.items) k []) × ((s : Spot) → Contains (get_or (map (λ v. v.items) l.all.items) k []) s → IsWithin 20000 s.first);
}
