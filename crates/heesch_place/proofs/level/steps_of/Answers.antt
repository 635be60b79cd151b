use Rattle.std.proofs.Common.{◌≡◌, ℕ, Global, Vec, List, [], ◌∷◌, length, get_or, map, Contains, sym, ap, subst, ◌∙◌, arith}
use Rattle.std.proofs.lemmas.Int.{ints}
use Rattle.std.proofs.lemmas.List.{map-append}
use Rattle.std.proofs.lemmas.List.Elements.{All-contains}
use Rattle.heesch_grid.specs.declared.Cell.{Cell}
use Rattle.heesch_grid.specs.Cells.{has}
use Rattle.heesch_grid.specs.Vectors.{IsWithin, minus}
use Rattle.heesch_place.specs.declared.spots.Spot.{Spot}
use Rattle.heesch_place.specs.Spots.{AreNumbers, Formed, IsBeside, head_of, seen_from, spot_place, width}
use Rattle.heesch_place.proofs.Gathering.{each_more, numbers_same}
use Rattle.heesch_place.proofs.Moving.{first_is}
use Rattle.heesch_place.proofs.level.steps_of.Given as given
use Rattle.heesch_place.proofs.level.steps_of.Goals as goal
use Rattle.heesch_place.proofs.level.steps_of.Goals.{After-reach}

abbrev items : Vec ℕ Global → List ℕ
items v = v.items

head : (g : given.Over) (c : After-reach g) → head_of (get_or c.args.prototile.now.formed.forms c.loop-form.form []) ≡ c.first_of-first.result
head g c =
    ap head_of (sym (c.cells.ensures.cells ∙ c.shape.ensures ∙ c.form.ensures.tile ∙ ap (λ (f : Formed). get_or f.forms c.loop-form.form []) c.forms-forms.ensures.is)) ∙ first_is c.cells.result.now c.first_of-first.result c.first_of-first.ensures.first

far : (g : given.Over) (c : After-reach g) (s : Spot) → Contains c.beside.result.now s → IsWithin c.args.prototile.now.reach (minus s.first c.first_of-first.result)
far g c s m = subst (λ z. IsWithin c.args.prototile.now.reach (minus s.first z)) (head g c) (c.beside.ensures.reach s m)

pub offsets-requires-clause-near : goal.offsets-requires-clause-near
offsets-requires-clause-near g c s m =
    let w = far g (goal.at.offsets-requires-clause-near g c).After-reach s m in
    let x = c.first_of-first.result in
    let v = c.form.ensures.within x (ap (λ zs. has zs x) (sym (c.cells.ensures.cells ∙ c.shape.ensures)) ∙ c.first_of-first.ensures.member) in
    let few = c.reach.ensures.small in
    let e = c.reach.ensures.reach in
    record {
      a_low = omega (arith, ints, w.a_low, v.a_low, few, e);
      a_high = omega (arith, ints, w.a_high, v.a_high, few, e);
      b_low = omega (arith, ints, w.b_low, v.b_low, few, e);
      b_high = omega (arith, ints, w.b_high, v.b_high, few, e);
    }

pub offsets-requires-clause-within : goal.offsets-requires-clause-within
offsets-requires-clause-within g c s m =
    subst (λ n. IsWithin n (minus s.first c.first_of-first.result)) (sym c.reach.ensures.reach) (far g (goal.at.offsets-requires-clause-within g c).After-reach s m)

pub loop-form-preserved : goal.loop-form-preserved
loop-form-preserved g c =
    let geometry = g.G.Grid.geometry in
    let forms = c.args.prototile.now.formed.forms in
    let reach = c.args.prototile.now.reach in
    let m = c.args.marks.now in
    let l = c.loop-form in
    let listed = c.beside.ensures.listed in
    let form = get_or forms l.form [] in
    let P : ℕ → List ℕ → Type 0 = λ k ns. ((s : Spot) → IsBeside geometry forms (get_or forms k []) s → IsWithin reach (minus s.first (head_of (get_or forms k [])))) × AreNumbers (IsBeside geometry forms (get_or forms k [])) (λ s. spot_place (width m.radius) reach (length forms) (seen_from (head_of (get_or forms k [])) s)) ns in
    let N : ℕ → ℕ → Cell → Type 0 = λ r f x. AreNumbers (Contains c.beside.result.now) (λ s. spot_place (width m.radius) r f (seen_from x s)) c.in_ok-steps.steps.items in
    let made = subst (λ r. N r (length forms) (head_of form)) c.reach.ensures.reach (subst (λ f. N c.reach.result f (head_of form)) c.requires.forms (subst (λ x. N c.reach.result m.forms x) (sym (head g (goal.at.loop-form-preserved g c).After-reach)) c.in_ok-steps.ensures)) in
    let numbers = numbers_same (Contains c.beside.result.now) (IsBeside geometry forms form) (λ s. spot_place (width m.radius) reach (length forms) (seen_from (head_of form) s)) c.in_ok-steps.steps.items (λ s k. All-contains (IsBeside geometry forms form) c.beside.result.now s listed.only k) listed.every made in
    let both = each_more P [] l.form (map items l.all.items) (map items c.add.new.all.items) c.in_ok-steps.steps.items l.invariant.long l.invariant.each (λ s b. c.beside.ensures.reach s (listed.every s b), numbers) (ap (map items) c.in_ok-add.ensures ∙ map-append items l.all.items (c.in_ok-steps.steps ∷ [])) in
    record { long = both.0; each = both.1 }

pub returns : goal.returns
returns g c =
    let l = c.loop-form in
    let count = c.count-form-end.ensures.count ∙ ap (λ (f : Formed). length f.forms) c.forms-forms.ensures.is in
    record {
      long = omega (arith, l.invariant.long, c.loop-form-test.false, l.auto.form-end, count);
      near = λ k s less b. (l.invariant.each k (omega (arith, less, c.loop-form-test.false, count))).0 s b;
      each = λ k less. (l.invariant.each k (omega (arith, less, c.loop-form-test.false, count))).1;
    }
