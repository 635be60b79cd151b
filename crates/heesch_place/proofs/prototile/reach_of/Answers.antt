use Rattle.std.proofs.Common.{◌≡◌, rules, ◌+◌, ◌<◌, ◌≤◌, Global, Vec, List, [], length, get_or, map, Contains, inl, inr, ap, sym, subst, ◌∙◌, arith}
use Rattle.std.proofs.lemmas.Bool.{cases_lt}
use Rattle.std.proofs.lemmas.Int.{ints}
use Rattle.heesch_grid.specs.Cells.{has}
use Rattle.heesch_grid.specs.Vectors.{IsWithin, minus}
use Rattle.heesch_grid.proofs.Images.{wider}
use Rattle.heesch_place.specs.declared.spots.Spot.{Spot}
use Rattle.heesch_place.specs.Spots.{head_of}
use Rattle.heesch_place.proofs.Moving.{first_is}
use Rattle.heesch_place.proofs.Numbering.{get_or-mapped, length-mapped}
use Rattle.heesch_place.proofs.prototile.reach_of.Given as given
use Rattle.heesch_place.proofs.prototile.reach_of.Goals as goal
use Rattle.heesch_place.proofs.prototile.reach_of.Goals.{After-widened}

abbrev items : Vec Spot Global → List Spot
items v = v.items

-- there is a list for the form
within_list : (g : given.Over) (c : After-widened g) → c.loop-form.form < length c.args.beside.now
within_list g c = omega (arith, c.loop-form-test.true, c.count-form-end.ensures.count, c.requires.long)

list_is : (g : given.Over) (c : After-widened g) → get_or (map items c.args.beside.now) c.loop-form.form [] ≡ c.as_slice-spots.result.now
list_is g c = get_or-mapped items c.args.beside.now c.loop-form.form c.index-beside-form.result [] (within_list g c) ∙ ap items (sym c.index-beside-form.is) ∙ sym c.as_slice-spots.ensures.value

head_is : (g : given.Over) (c : After-widened g) → head_of (get_or c.args.forms.now.forms c.loop-form.form []) ≡ c.first_of-first.result
head_is g c = ap head_of (sym (c.cells.ensures.cells ∙ c.shape.ensures ∙ c.form.ensures.tile)) ∙ first_is c.cells.result.now c.first_of-first.result c.first_of-first.ensures.first

small : (g : given.Over) (c : After-widened g) → c.radius_of.result + c.widened.result ≤ 25000
small g c =
    let long = length-mapped items c.args.beside.now in
    let radius = c.radius_of.ensures.bound 20000 (λ s m. c.requires.near c.loop-form.form s (omega (arith, within_list g c, long)) (subst (λ zs. Contains zs s) (sym (list_is g c)) m)) in
    let first = c.widened.ensures.bound 5000 (omega arith) (c.form.ensures.within c.first_of-first.result (ap (λ zs. has zs c.first_of-first.result) (sym (c.cells.ensures.cells ∙ c.shape.ensures)) ∙ c.first_of-first.ensures.member)) in
    omega arith

pub overflow_add-radius_of : goal.overflow_add-radius_of
overflow_add-radius_of g c = let h = small g (goal.at.overflow_add-radius_of g c).After-widened in search rules

pub loop-form-preserved : goal.loop-form-preserved
loop-form-preserved g c =
    let at = (goal.at.loop-form-preserved g c).After-widened in
    let form = c.loop-form.form in
    let lists = map items c.args.beside.now in
    let forms = c.args.forms.now.forms in
    let G = c.greater-reach in
    let n = c.radius_of.result + c.widened.result in
    let few = small g at in
    record {
      reach = λ k s less m. elim (cases_lt k form) [
        | inl low ↦ wider c.loop-form.reach G.result (minus s.first (head_of (get_or forms k []))) G.ensures.first (c.loop-form.invariant.reach k s low m)
        | inr high ↦
            let e : k ≡ form = omega arith in
            let inside = subst (λ zs. Contains zs s) (ap (λ i. get_or lists i []) e ∙ list_is g at) m in
            let w = c.radius_of.ensures.within s inside in
            let v = c.widened.ensures.within in
            let x = c.first_of-first.result in
            let far : IsWithin n (minus s.first x) = record { a_low = omega (arith, ints, w.a_low, v.a_high); a_high = omega (arith, ints, w.a_high, v.a_low); b_low = omega (arith, ints, w.b_low, v.b_high); b_high = omega (arith, ints, w.b_high, v.b_low) } in
            let head : head_of (get_or forms k []) ≡ x = ap (λ i. head_of (get_or forms i [])) e ∙ head_is g at in
            wider n G.result (minus s.first (head_of (get_or forms k []))) G.ensures.second (subst (λ z. IsWithin n (minus s.first z)) (sym head) far)
      ];
      small = G.ensures.least 30000 c.loop-form.invariant.small (omega (arith, few));
    }
