use Rattle.std.proofs.Common.{ℕ, Global, Vec, List, [], ◌∷◌, get_or, map, Contains, ap, subst, ◌∙◌}
use Rattle.std.proofs.lemmas.List.{map-append}
use Rattle.heesch_grid.specs.Listing.{ListsExactly}
use Rattle.heesch_grid.specs.Vectors.{IsWithin}
use Rattle.heesch_place.specs.declared.spots.Spot.{Spot}
use Rattle.heesch_place.specs.Spots.{IsBeside, spot_before}
use Rattle.heesch_place.proofs.Gathering.{each_more}
use Rattle.heesch_place.proofs.prototile.beside_each.Goals as goal

abbrev items : Vec Spot Global → List Spot
items v = v.items

pub loop-form-preserved : goal.loop-form-preserved
loop-form-preserved g c =
    let geometry = g.G.Grid.geometry in
    let forms = c.args.forms.now.forms in
    let l = c.loop-form in
    let v = c.in_ok-spots.spots in
    let P : ℕ → List Spot → Type 0 = λ k zs. ListsExactly spot_before (IsBeside geometry forms (get_or forms k [])) zs × ((s : Spot) → Contains zs s → IsWithin 20000 s.first) in
    let listed = subst (λ t. ListsExactly spot_before (IsBeside geometry forms t) v.items) (c.shape.ensures ∙ c.form.ensures.tile) c.in_ok-spots.ensures.listed in
    let both = each_more P [] l.form (map items l.all.items) (map items c.add.new.all.items) v.items l.invariant.long l.invariant.each (listed, c.in_ok-spots.ensures.near) (ap (map items) c.in_ok-add.ensures ∙ map-append items l.all.items (v ∷ [])) in
    record { long = both.0; each = both.1 }
