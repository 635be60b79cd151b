use Rattle.std.proofs.Common.{◌≡◌, ◌<◌, Global, Vec, List, [], length, get_or, map, Contains, ap, sym, subst, ◌∙◌, arith}
use Rattle.heesch_grid.specs.Listing.{ListsExactly}
use Rattle.heesch_grid.specs.Vectors.{IsWithin, minus}
use Rattle.heesch_place.specs.declared.spots.Spot.{Spot}
use Rattle.heesch_place.specs.Spots.{Formed, IsBeside, Prepared, head_of, spot_before}
use Rattle.heesch_place.proofs.Numbering.{get_or-mapped, length-mapped}
use Rattle.heesch_place.proofs.prototile.Prototile.beside.Given as given
use Rattle.heesch_place.proofs.prototile.Prototile.beside.Goals as goal
use Rattle.heesch_place.proofs.prototile.Prototile.beside.Goals.{After-as_slice}

abbrev items : Vec Spot Global → List Spot
items v = v.items

-- the list is that of the form
list_is : (g : given.Over) (c : After-as_slice g) → (c.args.form < length (map items c.self.inside.beside.items)) × (get_or (map items c.self.inside.beside.items) c.args.form [] ≡ c.as_slice.result.now)
list_is g c =
    let lists = c.self.inside.beside.items in
    let long = length-mapped items lists in
    let forms = ap (λ (p : Prepared). length p.formed.forms) c.self.view_is in
    let less : c.args.form < length lists = omega (arith, long, c.self.invariant.are_beside.long, forms, c.requires) in
    (omega (arith, less, long), get_or-mapped items lists c.args.form c.index.result.now [] less ∙ ap items (sym c.index.ensures) ∙ sym c.as_slice.ensures.value)

pub returns-clause-listed : goal.returns-clause-listed
returns-clause-listed g c =
    let geometry = g.G.Grid.geometry in
    let at = (goal.at.returns-clause-listed g c).After-as_slice in
    let k = c.args.form in
    let is = list_is g at in
    let less : k < length c.self.inside.forms.now.forms = let l = is.0 in omega (arith, l, c.self.invariant.are_beside.long) in
    let L : Formed → List Spot → Type 0 = λ f zs. ListsExactly spot_before (IsBeside geometry f.forms (get_or f.forms k [])) zs in
    subst (λ f. L f c.as_slice.result.now) (ap (λ (p : Prepared). p.formed) c.self.view_is) (subst (L c.self.inside.forms.now) is.1 (c.self.invariant.are_beside.each k less))

pub returns-clause-reach : goal.returns-clause-reach
returns-clause-reach g c s m =
    let at = (goal.at.returns-clause-reach g c).After-as_slice in
    let k = c.args.form in
    let is = list_is g at in
    let w = c.self.invariant.in_reach k s is.0 (subst (λ zs. Contains zs s) (sym is.1) m) in
    subst (λ (p : Prepared). IsWithin p.reach (minus s.first (head_of (get_or p.formed.forms k [])))) c.self.view_is w
