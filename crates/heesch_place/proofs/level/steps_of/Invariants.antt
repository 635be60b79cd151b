use Rattle.std.proofs.Common.{◌≡◌, ◌<◌, ℕ, [], length, get_or, map}
use Rattle.heesch_grid.specs.Vectors.{IsWithin, minus}
use Rattle.heesch_place.specs.declared.spots.Spot.{Spot}
use Rattle.heesch_place.specs.Spots.{AreNumbers, IsBeside, head_of, seen_from, spot_place, width}
use Rattle.heesch_place.proofs.level.steps_of.Given as goal

abbrev pub invariant-loop-form : goal.invariant-loop-form
invariant-loop-form g l = record {
  long : length (map (λ v. v.items) l.all.items) ≡ l.form;
  each : (k : ℕ) → k < l.form → ((s : Spot) → IsBeside g.G.Grid.geometry l.prototile.formed.forms (get_or l.prototile.formed.forms k []) s → IsWithin l.prototile.reach (minus s.first (head_of (get_or l.prototile.formed.forms k [])))) × AreNumbers (IsBeside g.G.Grid.geometry l.prototile.formed.forms (get_or l.prototile.formed.forms k [])) (λ s. spot_place (width l.marks.radius) l.prototile.reach (length l.prototile.formed.forms) (seen_from (head_of (get_or l.prototile.formed.forms k [])) s)) (get_or (map (λ v. v.items) l.all.items) k []);
}
