use Rattle.std.proofs.Common.{◌≡◌, ℕ, ◌+◌, ◌-◌, ◌*◌, ◌<◌, ◌≤◌, Global, Vec, List, [], length, get_or, Contains, sym, ap, subst, ◌∙◌, arith}
use Rattle.heesch_grid.specs.Cells.{origin}
use Rattle.heesch_grid.specs.Vectors.{IsWithin, minus}
use Rattle.heesch_place.specs.declared.spots.Spot.{Spot}
use Rattle.heesch_place.specs.Found.{FromOne, Joins}
use Rattle.heesch_place.specs.Spots.{AreNumbers, Formed, IsBeside, IsSet, IsSpot, form_of, head_of, seen_from, spot_place, tile_at, width}
use Rattle.heesch_place.proofs.Beside.{HasPlace, beside_form, beside_tile, from_marked, from_tiles, marked_from, place_joins, places_below, to_tiles}
use Rattle.heesch_place.proofs.Gathering.{from_all, from_more, member_at}
use Rattle.heesch_place.proofs.Numbering.{get_or-mapped, length-mapped}
use Rattle.heesch_place.proofs.Places.{shifted_within}
use Rattle.heesch_place.proofs.level.beside_some.Given as given
use Rattle.heesch_place.proofs.level.beside_some.Goals as goal
use Rattle.heesch_place.proofs.level.beside_some.Goals.{After-count, In_ok-steps, After-as_slice}

abbrev none : Spot
none = record { form = 0; first = origin }

abbrev items : Vec ℕ Global → List ℕ
items v = v.items

small : (g : given.Over) (c : After-count g) → c.radius_of.result + c.reach-reach.result ≤ 80000
small g c =
    let radius = c.radius_of.ensures.bound 50000 c.requires.near in
    let reach = c.reach-reach.ensures.small in
    omega arith

pub within-requires-clause-radius : goal.within-requires-clause-radius
within-requires-clause-radius g c = let h = small g (goal.at.within-requires-clause-radius g c).After-count in omega arith

-- there are as many marks for a cell as there are forms, and as many lists
marks_forms : (g : given.Over) (c : In_ok-steps g) → c.in_ok-marks.marks.forms ≡ length c.args.prototile.now.formed.forms
marks_forms g c = c.in_ok-marks.ensures.forms ∙ c.count.ensures.count ∙ ap (λ (f : Formed). length f.forms) c.forms.ensures.is

steps_long : (g : given.Over) (c : In_ok-steps g) → length c.in_ok-steps.steps.items ≡ length c.args.prototile.now.formed.forms
steps_long g c = sym (length-mapped items c.in_ok-steps.steps.items) ∙ c.in_ok-steps.ensures.long

-- ---- in the loop
abbrev spot : (g : given.Over) → After-as_slice g → Spot
spot g c = get_or c.args.inner.now c.loop-spot.spot-index none

inside : (g : given.Over) (c : After-as_slice g) → Contains c.args.inner.now (spot g c)
inside g c = member_at c.args.inner.now c.loop-spot.spot-index none c.loop-spot-test.true

valid : (g : given.Over) (c : After-as_slice g) → IsSpot g.G.Grid.geometry c.args.prototile.now.formed.forms (spot g c)
valid g c = c.requires.spots (spot g c) (inside g c)

pub index-requires : goal.index-requires
index-requires g c =
    let t = get_or c.args.inner.now c.loop-spot.spot-index none in
    let less = (c.requires.spots t (member_at c.args.inner.now c.loop-spot.spot-index none c.loop-spot-test.true)).inside in
    omega (arith, less, steps_long g (goal.at.index-requires g c).In_ok-steps, c.in_ok-steps.steps.ok.0)

radius_is : (g : given.Over) (c : After-as_slice g) → c.loop-spot.marks.radius ≡ c.radius_of.result + c.reach-reach.result
radius_is g c = c.loop-spot.invariant.radius ∙ c.in_ok-marks.ensures.radius

spot_near : (g : given.Over) (c : After-as_slice g) (t : Spot) → Contains c.args.inner.now t → IsWithin (c.loop-spot.marks.radius - c.reach-reach.result) t.first
spot_near g c t m =
    let e : c.radius_of.result ≡ c.loop-spot.marks.radius - c.reach-reach.result = omega (arith, radius_is g c) in
    subst (λ n. IsWithin n t.first) e (c.radius_of.ensures.within t m)

-- the numbers are those of the spots beside the form
numbers : (g : given.Over) (c : After-as_slice g) (s : In_ok-steps g) → length c.in_ok-steps.steps.items ≡ length c.args.prototile.now.formed.forms → c.in_ok-marks.marks.forms ≡ length c.args.prototile.now.formed.forms → let form = form_of c.args.prototile.now.formed.forms (spot g c) in AreNumbers (IsBeside g.G.Grid.geometry c.args.prototile.now.formed.forms form) (λ s. spot_place (width c.loop-spot.marks.radius) c.reach-reach.result c.loop-spot.marks.forms (seen_from (head_of form) s)) c.as_slice.result.now
numbers g c _ long count =
    let forms = c.args.prototile.now.formed.forms in
    let t = spot g c in
    let form = form_of forms t in
    let less = (valid g c).inside in
    let list = get_or-mapped items c.in_ok-steps.steps.items t.form c.index.result.now [] (omega (arith, less, long)) ∙ ap items (sym c.index.ensures) ∙ sym c.as_slice.ensures.value in
    let N : ℕ → ℕ → ℕ → List ℕ → Type 0 = λ r n f ns. AreNumbers (IsBeside g.G.Grid.geometry forms form) (λ s. spot_place (width r) n f (seen_from (head_of form) s)) ns in
    let at = subst (N c.in_ok-marks.marks.radius c.args.prototile.now.reach (length forms)) list (c.in_ok-steps.ensures.each t.form less) in
    subst (λ f. N c.loop-spot.marks.radius c.reach-reach.result f c.as_slice.result.now) (sym (c.loop-spot.invariant.forms ∙ count))
    (subst (λ n. N c.loop-spot.marks.radius n (length forms) c.as_slice.result.now) (sym c.reach-reach.ensures.reach) (subst (λ r. N r c.args.prototile.now.reach (length forms) c.as_slice.result.now) (sym c.loop-spot.invariant.radius) at))

in_reach : (g : given.Over) (c : After-as_slice g) → c.in_ok-marks.marks.forms ≡ length c.args.prototile.now.formed.forms → (s : Spot) → IsBeside g.G.Grid.geometry c.args.prototile.now.formed.forms (form_of c.args.prototile.now.formed.forms (spot g c)) s → (s.form < c.loop-spot.marks.forms) × IsWithin c.reach-reach.result (minus s.first (head_of (form_of c.args.prototile.now.formed.forms (spot g c))))
in_reach g c count s b = (
  let less = b.is_spot.inside in omega (arith, less, count, c.loop-spot.invariant.forms),
  subst (λ n. IsWithin n (minus s.first (head_of (form_of c.args.prototile.now.formed.forms (spot g c))))) (sym c.reach-reach.ensures.reach) (c.in_ok-steps.ensures.near (spot g c).form s (valid g c).inside b),
)

pub add_at-requires-clause-near : goal.add_at-requires-clause-near
add_at-requires-clause-near g c = let at = (goal.at.add_at-requires-clause-near g c).After-as_slice in spot_near g at (spot g at) (inside g at)

pub add_at-requires-clause-places : goal.add_at-requires-clause-places
add_at-requires-clause-places g c =
    let stages = goal.at.add_at-requires-clause-places g c in
    let at = stages.After-as_slice in
    let l = c.loop-spot in
    let t = spot g at in
    let forms = c.args.prototile.now.formed.forms in
    let count = marks_forms g stages.In_ok-steps in
    let few : c.reach-reach.result ≤ l.marks.radius = omega (arith, radius_is g at) in
    let area : width l.marks.radius * width l.marks.radius * l.marks.forms ≡ width (c.radius_of.result + c.reach-reach.result) * width (c.radius_of.result + c.reach-reach.result) * c.count.result = λ i. width (radius_is g at i) * width (radius_is g at i) * (l.invariant.forms ∙ c.in_ok-marks.ensures.forms) i in
    places_below (IsBeside g.G.Grid.geometry forms (form_of forms t)) l.marks.radius c.reach-reach.result l.marks.forms t.first (head_of (form_of forms t)) c.as_slice.result.now few (spot_near g at t (inside g at)) (numbers g at stages.In_ok-steps (steps_long g stages.In_ok-steps) count) (in_reach g at count)
    (length l.marks.marks) (l.invariant.long ∙ c.in_ok-marks.ensures.long ∙ sym area)

pub loop-spot-preserved : goal.loop-spot-preserved
loop-spot-preserved g c =
    let geometry = g.G.Grid.geometry in
    let law = g.met.G.Grid.laws in
    let stages = goal.at.loop-spot-preserved g c in
    let at = stages.After-as_slice in
    let l = c.loop-spot in
    let t = spot g at in
    let forms = c.args.prototile.now.formed.forms in
    let count = marks_forms g stages.In_ok-steps in
    let m = c.in_ok-marks.marks in
    let new = c.add_at.new.self in
    let Q : Spot → Spot → Type 0 = λ t. IsBeside geometry forms (tile_at forms t) in
    let few : c.reach-reach.result ≤ l.marks.radius = omega (arith, radius_is g at) in
    let joined = place_joins (IsBeside geometry forms (form_of forms t)) l.marks.radius c.reach-reach.result l.marks.forms t.first (head_of (form_of forms t)) c.as_slice.result.now few (spot_near g at t (inside g at)) (numbers g at stages.In_ok-steps (steps_long g stages.In_ok-steps) count) (in_reach g at count)
    (Q t) (IsSet l.marks.marks) (IsSet new.marks) (λ s b. beside_tile geometry law forms t s (valid g at) b) (λ d b. beside_form geometry law forms t d (valid g at) b) c.add_at.ensures.added in
    let here = subst (λ r. Joins (HasPlace (Q t) r m.forms) (IsSet l.marks.marks) (IsSet new.marks)) l.invariant.radius (subst (λ f. Joins (HasPlace (Q t) l.marks.radius f) (IsSet l.marks.marks) (IsSet new.marks)) l.invariant.forms joined) in
    record {
      radius = c.add_at.ensures.radius ∙ l.invariant.radius;
      forms = c.add_at.ensures.forms ∙ l.invariant.forms;
      long = c.add_at.ensures.long ∙ l.invariant.long;
      joins = from_more (λ t. HasPlace (Q t) m.radius m.forms) c.args.inner.now l.spot-index none (IsSet m.marks) (IsSet l.marks.marks) (IsSet new.marks) c.loop-spot-test.true l.invariant.joins here;
    }

pub returns-clause-beside : goal.returns-clause-beside
returns-clause-beside g c =
    let geometry = g.G.Grid.geometry in
    let law = g.met.G.Grid.laws in
    let stages = goal.at.returns-clause-beside g c in
    let forms = c.args.prototile.now.formed.forms in
    let inner = c.args.inner.now in
    let l = c.loop-spot in
    let m = c.in_ok-marks.marks in
    let reach = c.reach-reach.result in
    let Q : Spot → Spot → Type 0 = λ t. IsBeside geometry forms (tile_at forms t) in
    let J : ℕ → ℕ → Type 0 = λ r f. Joins (FromOne (λ t. HasPlace (Q t) r f) inner) (IsSet m.marks) (IsSet l.marks.marks) in
    let all = from_all (λ t. HasPlace (Q t) m.radius m.forms) inner l.spot-index (IsSet m.marks) (IsSet l.marks.marks) (omega (arith, c.loop-spot-test.false, l.auto.spot-index-end)) l.invariant.joins in
    let joins = subst (λ r. J r l.marks.forms) (sym l.invariant.radius) (subst (λ f. J m.radius f) (sym l.invariant.forms) all) in
    let radius : l.marks.radius ≡ c.radius_of.result + reach = l.invariant.radius ∙ c.in_ok-marks.ensures.radius in
    let count : l.marks.forms ≡ length forms = l.invariant.forms ∙ marks_forms g stages.In_ok-steps in
    record {
      only = λ d h. to_tiles geometry forms inner d (from_marked Q inner l.marks (IsSet m.marks) joins c.in_ok-marks.ensures.none d h);
      every = λ d h.
          let q = from_tiles geometry forms inner d h in
          let t = q.source in
          let is_spot = c.requires.spots t q.inside in
          let o = beside_form geometry law forms t d is_spot q.gives in
          let less = q.gives.is_spot.inside in
          let e : c.radius_of.result ≡ l.marks.radius - reach = omega (arith, radius) in
          let away = subst (λ n. IsWithin n (minus o.0.first (head_of (form_of forms t)))) (sym c.reach-reach.ensures.reach) (c.in_ok-steps.ensures.near t.form o.0 is_spot.inside o.1) in
          let within = shifted_within l.marks.radius reach (length forms) t.first (head_of (form_of forms t)) o.0 (omega (arith, radius)) (subst (λ n. IsWithin n t.first) e (c.radius_of.ensures.within t q.inside)) away in
          marked_from Q inner l.marks (IsSet m.marks) joins d (omega (arith, less, count)) (subst (λ (s : Spot). IsWithin l.marks.radius s.first) o.2 within) q;
    }
