use Rattle.std.proofs.Common.{◌≡◌, rules, ℕ, ◌+◌, ◌-◌, ◌*◌, ◌<◌, ◌≤◌, true, List, length, get_or, map, Contains, ap, sym, subst, ◌∙◌, arith}
use Rattle.std.proofs.lemmas.Int.{ints}
use Rattle.heesch_grid.specs.declared.Cell.{Cell}
use Rattle.heesch_grid.specs.Cells.{has, origin}
use Rattle.heesch_grid.specs.Vectors.{IsWithin, minus}
use Rattle.heesch_grid.proofs.CellFacts.{has-is}
use Rattle.heesch_grid.proofs.Images.{wider}
use Rattle.heesch_shape.proofs.Loops.{has_at}
use Rattle.heesch_place.specs.declared.spots.Spot.{Spot}
use Rattle.heesch_place.specs.Found.{FromOne, Joins}
use Rattle.heesch_place.specs.Spots.{AreCovers, AreForms, AreNumbers, Covers, Formed, IsSet, seen_from, spot_place, width}
use Rattle.heesch_place.proofs.Beside.{HasPlace, covered_some, covers_cell, covers_near, covers_origin, from_marked, marked_from, place_joins, places_below, some_covered}
use Rattle.heesch_place.proofs.Gathering.{from_all, from_more, numbers_same}
use Rattle.heesch_place.proofs.Places.{shifted_within}
use Rattle.heesch_place.proofs.forms.Forms.over.Given as given
use Rattle.heesch_place.proofs.forms.Forms.over.Goals as goal
use Rattle.heesch_place.proofs.forms.Forms.over.Goals.{After-radius, In_ok-marks, After-as_slice}

-- the list has the spots whose tiles have (0, 0), and they begin near it
covers : (g : given.Over) (c : After-radius g) → AreCovers c.args.self.now.forms c.as_slice-covers.result.now
covers g c = subst (λ fs. AreCovers fs c.as_slice-covers.result.now) (ap (λ (f : Formed). f.forms) c.self.view_is) (subst (AreCovers (map (λ p. p.tile) c.self.inside.forms.items)) (sym c.as_slice-covers.ensures.value) c.self.invariant.are_covers)

near : (g : given.Over) (c : After-radius g) (s : Spot) → Contains c.as_slice-covers.result.now s → IsWithin 10000 s.first
near g c s m =
    let forms = subst (AreForms g.G.Grid.geometry c.self.inside.shape) (ap (λ (f : Formed). f.forms) c.self.view_is) c.self.invariant.are_forms in
    covers_near c.args.self.now.forms forms.near (λ t i. (forms.begins t i).some) s ((covers g c).only s m)

small : (g : given.Over) (c : After-radius g) → c.radius.result + c.radius_of-reach.result ≤ 16000
small g c =
    let reach = c.radius_of-reach.ensures.bound 10000 (near g c) in
    let radius = c.radius.ensures.bound 6000 c.requires in
    omega arith

pub overflow_add-radius : goal.overflow_add-radius
overflow_add-radius g c = let h = small g (goal.at.overflow_add-radius g c).After-radius in search rules

pub within-requires-clause-radius : goal.within-requires-clause-radius
within-requires-clause-radius g c = let h = small g (goal.at.within-requires-clause-radius g c).After-radius in omega arith

pub offsets-requires-clause-near : goal.offsets-requires-clause-near
offsets-requires-clause-near g c s m = wider 10000 1000000 s.first (omega arith) (near g (goal.at.offsets-requires-clause-near g c).After-radius s m)

-- there are as many marks for a cell as there are forms
marks_forms : (g : given.Over) (c : In_ok-marks g) → c.in_ok-marks.marks.forms ≡ length c.args.self.now.forms
marks_forms g c = c.in_ok-marks.ensures.forms ∙ c.count.ensures.count

pub offsets-requires-clause-forms : goal.offsets-requires-clause-forms
offsets-requires-clause-forms g c s m =
    let at = goal.at.offsets-requires-clause-forms g c in
    let inside = ((covers g at.After-radius).only s m).inside in
    omega (arith, inside, marks_forms g at.In_ok-marks)

-- a cover lies as near 0 as it begins
seen : (n : ℕ) (c : Cell) → IsWithin n c → IsWithin n (minus c origin)
seen n c w = record { a_low = omega (arith, ints, w.a_low); a_high = omega (arith, ints, w.a_high); b_low = omega (arith, ints, w.b_low); b_high = omega (arith, ints, w.b_high) }

pub offsets-requires-clause-within : goal.offsets-requires-clause-within
offsets-requires-clause-within g c s m = seen c.radius_of-reach.result s.first (c.radius_of-reach.ensures.within s m)

-- ---- in the loop
radius_is : (g : given.Over) (c : After-as_slice g) → c.loop-c.marks.radius ≡ c.radius.result + c.radius_of-reach.result
radius_is g c = c.loop-c.invariant.radius ∙ c.in_ok-marks.ensures.radius

cell_near : (g : given.Over) (c : After-as_slice g) (d : Cell) → has c.args.cells.now d ≡ true → IsWithin (c.loop-c.marks.radius - c.radius_of-reach.result) d
cell_near g c d h =
    let e : c.radius.result ≡ c.loop-c.marks.radius - c.radius_of-reach.result = omega (arith, radius_is g c) in
    subst (λ n. IsWithin n d) e (c.radius.ensures.within d h)

-- the numbers are those of the covers
numbers : (g : given.Over) (c : After-as_slice g) → AreCovers c.args.self.now.forms c.as_slice-covers.result.now → AreNumbers (Covers c.args.self.now.forms origin) (λ s. spot_place (width c.loop-c.marks.radius) c.radius_of-reach.result c.loop-c.marks.forms (seen_from origin s)) c.as_slice.result.now
numbers g c are =
    let l = c.loop-c in
    let reach = c.radius_of-reach.result in
    let N : ℕ → ℕ → List ℕ → Type 0 = λ r f ns. AreNumbers (Contains c.as_slice-covers.result.now) (λ s. spot_place (width r) reach f (seen_from origin s)) ns in
    let made = subst (λ r. N r l.marks.forms c.as_slice.result.now) (sym l.invariant.radius) (subst (λ f. N c.in_ok-marks.marks.radius f c.as_slice.result.now) (sym l.invariant.forms) (subst (N c.in_ok-marks.marks.radius c.in_ok-marks.marks.forms) (sym c.as_slice.ensures.value) c.in_ok-offsets.ensures)) in
    numbers_same (Contains c.as_slice-covers.result.now) (Covers c.args.self.now.forms origin) (λ s. spot_place (width l.marks.radius) reach l.marks.forms (seen_from origin s)) c.as_slice.result.now are.only are.every made

covers_in_reach : (g : given.Over) (c : After-as_slice g) → AreCovers c.args.self.now.forms c.as_slice-covers.result.now → (s : Spot) → Covers c.args.self.now.forms origin s → (s.form < c.loop-c.marks.forms) × IsWithin c.radius_of-reach.result (minus s.first origin)
covers_in_reach g c are s h = (
  let inside = h.inside in omega (arith, inside, c.loop-c.invariant.forms, c.in_ok-marks.ensures.forms, c.count.ensures.count),
  seen c.radius_of-reach.result s.first (c.radius_of-reach.ensures.within s (are.every s h)),
)

pub add_at-requires-clause-near : goal.add_at-requires-clause-near
add_at-requires-clause-near g c =
    cell_near g (goal.at.add_at-requires-clause-near g c).After-as_slice (get_or c.args.cells.now c.loop-c.c-index origin) (has_at c.args.cells.now c.loop-c.c-index origin c.loop-c-test.true)

pub add_at-requires-clause-places : goal.add_at-requires-clause-places
add_at-requires-clause-places g c =
    let at = goal.at.add_at-requires-clause-places g c in
    let are = covers g at.After-radius in
    let l = c.loop-c in
    let cells = c.args.cells.now in
    let d = get_or cells l.c-index origin in
    let few : c.radius_of-reach.result ≤ l.marks.radius = omega (arith, radius_is g at.After-as_slice) in
    let area : width l.marks.radius * width l.marks.radius * l.marks.forms ≡ width (c.radius.result + c.radius_of-reach.result) * width (c.radius.result + c.radius_of-reach.result) * c.count.result = λ i. width (radius_is g at.After-as_slice i) * width (radius_is g at.After-as_slice i) * (l.invariant.forms ∙ c.in_ok-marks.ensures.forms) i in
    places_below (Covers c.args.self.now.forms origin) l.marks.radius c.radius_of-reach.result l.marks.forms d origin c.as_slice.result.now few (cell_near g at.After-as_slice d (has_at cells l.c-index origin c.loop-c-test.true)) (numbers g at.After-as_slice are) (covers_in_reach g at.After-as_slice are)
    (length l.marks.marks) (l.invariant.long ∙ c.in_ok-marks.ensures.long ∙ sym area)

pub loop-c-preserved : goal.loop-c-preserved
loop-c-preserved g c =
    let at = goal.at.loop-c-preserved g c in
    let are = covers g at.After-radius in
    let forms = c.args.self.now.forms in
    let l = c.loop-c in
    let m = c.in_ok-marks.marks in
    let cells = c.args.cells.now in
    let d = get_or cells l.c-index origin in
    let new = c.add_at.new.self in
    let few : c.radius_of-reach.result ≤ l.marks.radius = omega (arith, radius_is g at.After-as_slice) in
    let joined = place_joins (Covers forms origin) l.marks.radius c.radius_of-reach.result l.marks.forms d origin c.as_slice.result.now few (cell_near g at.After-as_slice d (has_at cells l.c-index origin c.loop-c-test.true)) (numbers g at.After-as_slice are) (covers_in_reach g at.After-as_slice are)
    (Covers forms d) (IsSet l.marks.marks) (IsSet new.marks) (covers_cell forms d) (covers_origin forms d) c.add_at.ensures.added in
    let here = subst (λ r. Joins (HasPlace (Covers forms d) r m.forms) (IsSet l.marks.marks) (IsSet new.marks)) l.invariant.radius (subst (λ f. Joins (HasPlace (Covers forms d) l.marks.radius f) (IsSet l.marks.marks) (IsSet new.marks)) l.invariant.forms joined) in
    record {
      radius = c.add_at.ensures.radius ∙ l.invariant.radius;
      forms = c.add_at.ensures.forms ∙ l.invariant.forms;
      long = c.add_at.ensures.long ∙ l.invariant.long;
      joins = from_more (λ c. HasPlace (Covers forms c) m.radius m.forms) cells l.c-index origin (IsSet m.marks) (IsSet l.marks.marks) (IsSet new.marks) c.loop-c-test.true l.invariant.joins here;
    }

pub returns : goal.returns
returns g c =
    let at = goal.at.returns g c in
    let are = covers g at.After-radius in
    let forms = c.args.self.now.forms in
    let l = c.loop-c in
    let m = c.in_ok-marks.marks in
    let cells = c.args.cells.now in
    let reach = c.radius_of-reach.result in
    let J : ℕ → ℕ → Type 0 = λ r f. Joins (FromOne (λ c. HasPlace (Covers forms c) r f) cells) (IsSet m.marks) (IsSet l.marks.marks) in
    let all = from_all (λ c. HasPlace (Covers forms c) m.radius m.forms) cells l.c-index (IsSet m.marks) (IsSet l.marks.marks) (omega (arith, c.loop-c-test.false, l.auto.c-index-end)) l.invariant.joins in
    let joins = subst (λ r. J r l.marks.forms) (sym l.invariant.radius) (subst (λ f. J m.radius f) (sym l.invariant.forms) all) in
    let radius : l.marks.radius ≡ c.radius.result + reach = l.invariant.radius ∙ c.in_ok-marks.ensures.radius in
    let count : l.marks.forms ≡ length forms = l.invariant.forms ∙ marks_forms g at.In_ok-marks in
    record {
      are_forms = count;
      small = let h = small g at.After-radius in omega (arith, radius);
      only = λ s h. some_covered forms cells s (from_marked (Covers forms) cells l.marks (IsSet m.marks) joins c.in_ok-marks.ensures.none s h);
      every = λ s inside h.
          let q = covered_some forms cells s inside h in
          let d = q.source in
          let o = covers_origin forms d s q.gives in
          let e : c.radius.result ≡ l.marks.radius - reach = omega (arith, radius) in
          let within = shifted_within l.marks.radius reach (length forms) d origin o.0 (omega (arith, radius)) (subst (λ n. IsWithin n d) e (c.radius.ensures.within d (has-is cells d q.inside))) (seen reach o.0.first (c.radius_of-reach.ensures.within o.0 (are.every o.0 o.1))) in
          marked_from (Covers forms) cells l.marks (IsSet m.marks) joins s (omega (arith, inside, count)) (subst (λ (t : Spot). IsWithin l.marks.radius t.first) o.2 within) q;
    }
