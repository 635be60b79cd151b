-- Spots beside a tile, by marks of their places and by cells that touch.
use Rattle.std.proofs.Common.{◌≡◌, ◌⊎◌, refl, sym, ap, ◌∙◌, subst, ℕ, ◌+◌, ◌-◌, ◌*◌, ◌<◌, ◌≤◌, true, not, List, [], ◌++◌, map, filter, length, get_or, Contains, inl, inr, arith, true≢false}
use Rattle.std.proofs.lemmas.Int.{ints}
use Rattle.std.proofs.lemmas.Bool.{cases_lt, false_from_ne_true}
use Rattle.std.proofs.lemmas.List.Elements.{All-contains, Contains-append_cases, Contains-append_left, Contains-append_right}
use Rattle.heesch_grid.specs.declared.Cell.{Cell}
use Rattle.heesch_grid.specs.declared.isometries.Iso.{Iso}
use Rattle.heesch_grid.specs.Cells.{cell_before, has, meet, origin}
use Rattle.heesch_grid.specs.CoronaFormula.{IsAtLevel}
use Rattle.heesch_grid.specs.Geometry.{Geometry, IsGrid, Touching, apply}
use Rattle.heesch_grid.specs.Listing.{ListsExactly}
use Rattle.heesch_grid.specs.Pairs.{Cell-eta, has-true}
use Rattle.heesch_grid.specs.Placement.{Apart, Touch}
use Rattle.heesch_grid.specs.Vectors.{IsWithin, plus, minus, negated}
use Rattle.heesch_grid.proofs.CellFacts.{has-is, meet-true, meet-is}
use Rattle.heesch_grid.proofs.ListFacts.{member_here}
use Rattle.heesch_grid.proofs.TileFacts.{contact, touch_by}
use Rattle.heesch_grid.proofs.WindowFacts.{map_member, member_map}
use Rattle.heesch_place.specs.declared.spots.Spot.{Spot}
use Rattle.heesch_place.specs.Found.{Adds, FromOne, IsBeyond, Joins}
use Rattle.heesch_place.specs.Spots.{AreBarred, AreBesideSome, AreForms, AreNumbers, AreSpotsOf, Covers, IsBeside, IsCover, AreCovers, head_of, IsMarked, IsOver, IsSet, IsSpot, IsWhole, Formed, MarkedSpots, has_mark, cell_place, form_of, is_whole, seen_from, shifted, spot_before, spot_place, step_to, tile_at, width}
use Rattle.heesch_place.proofs.Gathering.{filtered, joins_same, member_at}
use Rattle.heesch_place.proofs.Marks.{not_marked, unmarked}
use Rattle.heesch_place.proofs.Moves.{applied}
use Rattle.heesch_place.proofs.Places.{place_behind, same_place, shifted_within, spot_below}
use Rattle.heesch_place.proofs.Universality.{level_near}
use Rattle.heesch_place.proofs.Tiles.{moved_back, placement_spot, shifted_back, spot_placement, spot_shifted, spots_of, test_whole, tile_first, tile_shifted, whole_negated, whole_scaled, whole_test}

-- ---- moves by whole units keep what touches
plus_right : (m c d : Cell) → plus m c ≡ plus m d → c ≡ d
plus_right m c d e = let a = ap (λ z. z.a) e in let b = ap (λ z. z.b) e in Cell-eta c d (omega (arith, ints, a)) (omega (arith, ints, b))

meet_moved : (m : Cell) (s t : List Cell) → meet (map (plus m) s) (map (plus m) t) ≡ true → meet s t ≡ true
meet_moved m s t h =
    let d = meet-true (map (plus m) s) (map (plus m) t) h in
    let x = map_member (plus m) s d.0 d.1 in
    let y = map_member (plus m) t d.0 d.2 in
    meet-is s t x.0 x.1 (subst (Contains t) (plus_right m y.0 x.0 (y.2 ∙ sym x.2)) y.1)

module _ (g : Geometry) (law : IsGrid g) where
  touching_moved : (m c d : Cell) → IsWhole g m → Touching g c d → Touching g (plus m c) (plus m d)
  touching_moved m c d u t =
      let by : Iso = record { turn = 0; da = u.0.a; db = u.0.b } in
      let at : (z : Cell) → apply g by z ≡ plus m z = λ z. sym (applied g by z) ∙ (λ i. plus (whole_scaled g m u i) (law.identity z i)) in
      let some = law.turns_range.0 in
      subst (λ z. Touching g z (plus m d)) (at c) (subst (Touching g (apply g by c)) (at d) (law.touching_kept by (omega arith) c d t))

  touch_moved : (m : Cell) (s t : List Cell) → IsWhole g m → Touch g s t → Touch g (map (plus m) s) (map (plus m) t)
  touch_moved m s t u h =
      let k = contact g s t h in
      touch_by g (map (plus m) s) (map (plus m) t) (record {
        apart = false_from_ne_true (meet (map (plus m) s) (map (plus m) t)) (λ e. true≢false (sym (meet_moved m s t e) ∙ k.apart));
        first = plus m k.first;
        second = plus m k.second;
        in_first = member_map (plus m) s k.first k.in_first;
        in_second = member_map (plus m) t k.second k.in_second;
        touching = touching_moved m k.first k.second u k.touching;
      })

  module _ (forms : List (List Cell)) where
    beside_moved : (m : Cell) (tile : List Cell) (s : Spot) → IsWhole g m → IsBeside g forms tile s → IsBeside g forms (map (plus m) tile) (shifted m s)
    beside_moved m tile s u h = record {
      is_spot = spot_shifted g forms m s u h.is_spot;
      touches = subst (Touch g (map (plus m) tile)) (sym (tile_shifted forms m s)) (touch_moved m tile (tile_at forms s) u h.touches);
    }

    -- the spots beside the tile of a spot are those beside its form, moved
    pub beside_tile : (t s : Spot) → IsSpot g forms t → IsBeside g forms (form_of forms t) s → IsBeside g forms (tile_at forms t) (shifted (step_to forms t) s)
    beside_tile t s h b = beside_moved (step_to forms t) (form_of forms t) s h.whole b

    pub beside_form : (t d : Spot) → IsSpot g forms t → IsBeside g forms (tile_at forms t) d → (s : Spot) × IsBeside g forms (form_of forms t) s × (shifted (step_to forms t) s ≡ d)
    beside_form t d h b =
        let m = step_to forms t in
        let back = beside_moved (negated m) (tile_at forms t) d (whole_negated g m h.whole) b in
        (shifted (negated m) d, subst (λ z. IsBeside g forms z (shifted (negated m) d)) (moved_back m (form_of forms t)) back, shifted_back m d)

-- ---- marks of the places of spots
pub record HasPlace (Q : Spot → Type 0) (radius count place : ℕ) : Type 0 where
  pub spot : Spot
  pub gives : Q spot
  pub inside : spot.form < count
  pub within : IsWithin radius spot.first
  pub is : place ≡ spot_place (width radius) radius count spot

module _ (P : Spot → Type 0) (radius reach count : ℕ) (c x : Cell) (offsets : List ℕ) (few : reach ≤ radius) (wc : IsWithin (radius - reach) c) (numbers : AreNumbers P (λ s. spot_place (width radius) reach count (seen_from x s)) offsets) (near : (s : Spot) → P s → (s.form < count) × IsWithin reach (minus s.first x)) where
  pub places_below : (long : ℕ) → long ≡ width radius * width radius * count → (offset : ℕ) → Contains offsets offset → cell_place (width radius) (radius - reach) c * count + offset < long
  places_below long is offset m =
      let o = numbers.only offset m in
      let n = near o.0 o.1 in
      let behind = place_behind radius reach count c x o.0 few wc n.1 in
      let below = spot_below radius count radius (shifted (minus c x) o.0) (omega arith) (shifted_within radius reach count c x o.0 few wc n.1) n.0 in
      let at = o.2 in
      omega (arith, behind, below, at, is)

  -- what is marked are the spots with the property, moved
  pub place_joins : (Q : Spot → Type 0) (old new : ℕ → Type 0) → ((s : Spot) → P s → Q (shifted (minus c x) s)) → ((d : Spot) → Q d → (s : Spot) × P s × (shifted (minus c x) s ≡ d))
      → Joins (FromOne (λ offset place. place ≡ cell_place (width radius) (radius - reach) c * count + offset) offsets) old new → Joins (HasPlace Q radius count) old new
  place_joins Q old new f h a =
      joins_same (FromOne (λ offset place. place ≡ cell_place (width radius) (radius - reach) c * count + offset) offsets) (HasPlace Q radius count) old new
      (λ place k.
      let o = numbers.only k.source k.inside in
      let n = near o.0 o.1 in
      record {
        spot = shifted (minus c x) o.0;
        gives = f o.0 o.1;
        inside = n.0;
        within = shifted_within radius reach count c x o.0 few wc n.1;
        is = k.gives ∙ ap (λ z. cell_place (width radius) (radius - reach) c * count + z) o.2 ∙ place_behind radius reach count c x o.0 few wc n.1;
      })
      (λ place k.
      let s = h k.spot k.gives in
      record {
        source = spot_place (width radius) reach count (seen_from x s.0);
        inside = numbers.every s.0 s.1;
        gives = k.is ∙ ap (spot_place (width radius) radius count) (sym s.2) ∙ sym (place_behind radius reach count c x s.0 few wc (near s.0 s.1).1);
      })
      a

module _ {Y : Type 0} (Q : Y → Spot → Type 0) (ys : List Y) (m : MarkedSpots) (start : ℕ → Type 0) (a : Joins (FromOne (λ y. HasPlace (Q y) m.radius m.forms) ys) start (IsSet m.marks)) where
  pub from_marked : ((place : ℕ) → start place → ⊥) → (s : Spot) → IsMarked m s → FromOne Q ys s
  from_marked none s h = elim (a.only (spot_place (width m.radius) m.radius m.forms s) h.marked) [
    | inl k ↦ absurd (none (spot_place (width m.radius) m.radius m.forms s) k)
    | inr k ↦
        let p = k.gives in
        let e = same_place m.radius m.forms s p.spot h.within p.within h.inside p.inside p.is in
        record { source = k.source; inside = k.inside; gives = subst (Q k.source) (sym e) p.gives }
  ]

  pub marked_from : (s : Spot) → s.form < m.forms → IsWithin m.radius s.first → FromOne Q ys s → IsMarked m s
  marked_from s inside within h = record {
    inside = inside;
    within = within;
    marked = a.all (spot_place (width m.radius) m.radius m.forms s) (record { source = h.source; inside = h.inside; gives = record { spot = s; gives = h.gives; inside = inside; within = within; is = refl } });
  }

-- ---- spots over cells
module _ (forms : List (List Cell)) where
  pub covers_moved : (m c : Cell) (s : Spot) → Covers forms c s → Covers forms (plus m c) (shifted m s)
  covers_moved m c s h = record {
    inside = h.inside;
    covers = ap (λ t. has t (plus m c)) (tile_shifted forms m s) ∙ has-is (map (plus m) (tile_at forms s)) (plus m c) (member_map (plus m) (tile_at forms s) c (has-true (tile_at forms s) c h.covers));
  }

  -- the spots whose tiles have a cell are those whose tiles have (0, 0), moved
  pub covers_cell : (c : Cell) (s : Spot) → Covers forms origin s → Covers forms c (shifted (minus c origin) s)
  covers_cell c s h = subst (λ z. Covers forms z (shifted (minus c origin) s)) (Cell-eta (plus (minus c origin) origin) c (omega (arith, ints)) (omega (arith, ints))) (covers_moved (minus c origin) origin s h)

  pub covers_origin : (c : Cell) (d : Spot) → Covers forms c d → (s : Spot) × Covers forms origin s × (shifted (minus c origin) s ≡ d)
  covers_origin c d h =
      let m = minus c origin in
      (shifted (negated m) d, subst (λ z. Covers forms z (shifted (negated m) d)) (Cell-eta (plus (negated m) c) origin (omega (arith, ints)) (omega (arith, ints))) (covers_moved (negated m) c d h), shifted_back m d)

  pub some_covered : (cells : List Cell) (s : Spot) → FromOne (Covers forms) cells s → meet cells (tile_at forms s) ≡ true
  some_covered cells s h = meet-is cells (tile_at forms s) h.source h.inside (has-true (tile_at forms s) h.source h.gives.covers)

  pub covered_some : (cells : List Cell) (s : Spot) → s.form < length forms → meet cells (tile_at forms s) ≡ true → FromOne (Covers forms) cells s
  covered_some cells s inside h =
      let d = meet-true cells (tile_at forms s) h in
      record { source = d.0; inside = d.1; gives = record { inside = inside; covers = has-is (tile_at forms s) d.0 d.2 } }

  -- a spot whose tile has (0, 0) begins near it
  pub covers_near : ((form : List Cell) (c : Cell) → Contains forms form → has form c ≡ true → IsWithin 5000 c) → ((form : List Cell) → Contains forms form → 1 ≤ length form) → (s : Spot) → Covers forms origin s → IsWithin 10000 s.first
  covers_near near some s h =
      let form = form_of forms s in
      let inside = member_at forms s.form [] h.inside in
      let d = map_member (plus (step_to forms s)) form origin (has-true (tile_at forms s) origin h.covers) in
      let w = near form d.0 inside (has-is form d.0 d.1) in
      let v = near form (head_of form) inside (has-is form (head_of form) (member_at form 0 origin (some form inside))) in
      let a = ap (λ z. z.a) d.2 in
      let b = ap (λ z. z.b) d.2 in
      record { a_low = omega (arith, ints, w.a_high, v.a_low, a); a_high = omega (arith, ints, w.a_low, v.a_high, a); b_low = omega (arith, ints, w.b_high, v.b_low, b); b_high = omega (arith, ints, w.b_low, v.b_high, b) }

-- ---- the spots whose tiles have (0, 0), form by form
module _ (form : ℕ) (cells : List Cell) (x : Cell) (head : head_of cells ≡ x) where
  -- each cell of a form gives one
  pub cover_of : (s : Spot) → FromOne (λ c s. s ≡ record { form = form; first = minus x c }) cells s → IsCover form cells s
  cover_of s h =
      let c = h.source in
      let at : Spot = record { form = form; first = minus x c } in
      let e : plus (minus (minus x c) (head_of cells)) c ≡ origin = ap (λ z. plus (minus (minus x c) z) c) head ∙ Cell-eta (plus (minus (minus x c) x) c) origin (omega (arith, ints)) (omega (arith, ints)) in
      subst (IsCover form cells) (sym h.gives) (record { is_form = refl; covers = has-is (map (plus (minus (minus x c) (head_of cells))) cells) origin (subst (Contains (map (plus (minus (minus x c) (head_of cells))) cells)) e (member_map (plus (minus (minus x c) (head_of cells))) cells c h.inside)) })

  pub of_cover : (s : Spot) → IsCover form cells s → FromOne (λ c s. s ≡ record { form = form; first = minus x c }) cells s
  of_cover s h =
      let d = map_member (plus (minus s.first (head_of cells))) cells origin (has-true (map (plus (minus s.first (head_of cells))) cells) origin h.covers) in
      let at = ap (λ z. plus (minus s.first z) d.0) (sym head) ∙ d.2 in
      let a = ap (λ z. z.a) at in
      let b = ap (λ z. z.b) at in
      let first : s.first ≡ minus x d.0 = Cell-eta s.first (minus x d.0) (omega (arith, ints, a)) (omega (arith, ints, b)) in
      record { source = d.0; inside = d.1; gives = λ i. record { form = h.is_form i; first = first i } }

-- those of the first forms
pub record CoversBelow (forms : List (List Cell)) (most : ℕ) (covers : List Spot) : Type 0 where
  pub only : (s : Spot) → Contains covers s → (s.form < most) × Covers forms origin s
  pub every : (s : Spot) → s.form < most → Covers forms origin s → Contains covers s

module _ (forms : List (List Cell)) where
  pub covers_more : (i : ℕ) (old new : List Spot) → i < length forms → CoversBelow forms i old → Adds (IsCover i (get_or forms i [])) old new → CoversBelow forms (i + 1) new
  covers_more i old new less c a = record {
    only = λ s m. elim (a.only s m) [
      | inl o ↦ let h = c.only s o in (let l = h.0 in omega arith, h.1)
      | inr h ↦ (let e = h.is_form in omega arith, record { inside = let e = h.is_form in omega arith; covers = ap (λ k. has (map (plus (minus s.first (head_of (get_or forms k [])))) (get_or forms k [])) origin) h.is_form ∙ h.covers })
    ];
    every = λ s l h. elim (cases_lt s.form i) [
      | inl low ↦ a.kept s (c.every s low h)
      | inr high ↦
          let e : s.form ≡ i = omega arith in
          a.all s (record { is_form = e; covers = ap (λ k. has (map (plus (minus s.first (head_of (get_or forms k [])))) (get_or forms k [])) origin) (sym e) ∙ h.covers })
    ];
  }

  pub covers_all : (i : ℕ) (covers : List Spot) → i ≡ length forms → CoversBelow forms i covers → AreCovers forms covers
  covers_all i covers e c = record { only = λ s m. (c.only s m).1; every = λ s h. let l = h.inside in c.every s (omega arith) h }

-- ---- spots over the shape and the cells around it
module _ (g : Geometry) (formed : Formed) (touching all : List Cell) (marks : MarkedSpots) (around : ListsExactly cell_before (FromOne (Touching g) formed.shape) touching) (is : all ≡ touching ++ formed.shape) (over : IsOver formed.forms all marks) where
  over_all : (s : Spot) (c : Cell) → s.form < length formed.forms → Contains touching c ⊎ Contains formed.shape c → Contains (tile_at formed.forms s) c → IsMarked marks s
  over_all s c inside h m =
      let k : Contains (touching ++ formed.shape) c = elim h [ inl t ↦ Contains-append_left touching formed.shape c t | inr o ↦ Contains-append_right touching formed.shape c o ] in
      over.every s inside (meet-is all (tile_at formed.forms s) c (subst (λ zs. Contains zs c) (sym is) k) m)

  pub barred_over : AreBarred g formed marks
  barred_over = record {
    are_forms = over.are_forms;
    only = λ s h apart.
        let t = tile_at formed.forms s in
        let d = meet-true all t (over.only s h) in
        elim (Contains-append_cases touching formed.shape d.0 (subst (λ zs. Contains zs d.0) is d.1)) [
          | inl k ↦ let f = All-contains (FromOne (Touching g) formed.shape) touching d.0 around.only k in touch_by g formed.shape t (record { apart = apart; first = f.source; second = d.0; in_first = f.inside; in_second = d.2; touching = f.gives })
          | inr k ↦ absurd (true≢false (sym (meet-is formed.shape t d.0 k d.2) ∙ apart))
        ];
    meeting = λ s inside h. let d = meet-true formed.shape (tile_at formed.forms s) h in over_all s d.0 inside (inr d.1) d.2;
    touching = λ s inside h. let k = contact g formed.shape (tile_at formed.forms s) h in over_all s k.second inside (inl (around.every k.second (record { source = k.first; inside = k.in_first; gives = k.touching }))) k.in_second;
  }

-- ---- what is left of marked spots
module _ (g : Geometry) (law : IsGrid g) (forms : List (List Cell)) where
  -- those over the cells around a tile that lie whole units away and are apart from it
  pub beside_listed : (tile targets : List Cell) (own marks : MarkedSpots) (spots whole kept : List Spot) → ListsExactly cell_before (FromOne (Touching g) tile) targets → IsOver forms tile own → IsOver forms targets marks → ListsExactly spot_before (IsMarked marks) spots
      → whole ≡ filter (λ s. is_whole g (step_to forms s)) spots → kept ≡ filter (λ s. not (has_mark own s)) whole → ListsExactly spot_before (IsBeside g forms tile) kept
  beside_listed tile targets own marks spots whole kept around barred over l whole_is kept_is =
      filtered spot_before (λ s. IsMarked marks s × (is_whole g (step_to forms s) ≡ true)) (IsBeside g forms tile) (λ s. not (has_mark own s)) whole kept kept_is
      (filtered spot_before (IsMarked marks) (λ s. IsMarked marks s × (is_whole g (step_to forms s) ≡ true)) (λ s. is_whole g (step_to forms s)) spots whole whole_is l (λ s h t. (h, t)) (λ s h. h))
      (λ s h clear.
      let d = meet-true targets (tile_at forms s) (over.only s h.0) in
      let from = All-contains (FromOne (Touching g) tile) targets d.0 around.only d.1 in
      record {
        is_spot = record { inside = subst (λ n. s.form < n) over.are_forms h.0.inside; whole = whole_test g law (step_to forms s) h.1 };
        touches = touch_by g tile (tile_at forms s) (record { apart = false_from_ne_true (meet tile (tile_at forms s)) (λ e. not_marked own s clear (barred.every s (subst (λ n. s.form < n) over.are_forms h.0.inside) e)); first = from.source; second = d.0; in_first = from.inside; in_second = d.2; touching = from.gives });
      })
      (λ s h.
      let k = contact g tile (tile_at forms s) h.touches in
      let target = around.every k.second (record { source = k.first; inside = k.in_first; gives = k.touching }) in
      ((over.every s h.is_spot.inside (meet-is targets (tile_at forms s) k.second target k.in_second), test_whole g (step_to forms s) h.is_spot.whole), unmarked own s (let less = h.is_spot.inside in let e = barred.are_forms in omega arith) (λ m. true≢false (sym (barred.only s m) ∙ k.apart))))

  module _ (shape : List Cell) (is : AreForms g shape forms) where
    -- those beside the shape are the first level
    pub first_listed : (spots : List Spot) → ListsExactly spot_before (IsBeside g forms shape) spots → AreSpotsOf g forms (IsAtLevel g shape 1) spots
    first_listed spots l =
        spots_of g forms shape is (IsBeside g forms shape) (IsAtLevel g shape 1) spots l
        (λ s h. (h.is_spot, (spot_placement g forms shape is s h.is_spot, h.touches)))
        (λ t h. let s = placement_spot g forms shape is t h.0 in (s.0, record { is_spot = s.1; touches = subst (Touch g shape) (sym s.2) h.1 }, s.2))

    -- those beside the tiles of a level that have none of the cells of the shape and of those around it are the next one
    pub next_listed : (inner : List (List Cell)) (barred marks : MarkedSpots) (spots kept : List Spot) → AreBarred g (record { shape = shape; forms = forms }) barred → AreBesideSome g forms inner marks → ListsExactly spot_before (IsMarked marks) spots → kept ≡ filter (λ s. not (has_mark barred s)) spots → AreSpotsOf g forms (IsBeyond g shape inner) kept
    next_listed inner barred marks spots kept are_barred beside l kept_is =
        let Q : Spot → Type 0 = λ s. IsMarked marks s × (not (has_mark barred s) ≡ true) in
        spots_of g forms shape is Q (IsBeyond g shape inner) kept
        (filtered spot_before (IsMarked marks) Q (λ s. not (has_mark barred s)) spots kept kept_is l (λ s h t. (h, t)) (λ s h. h))
        (λ s h.
        let b = beside.only s h.0 in
        let inside = b.gives.is_spot.inside in (
          b.gives.is_spot,
          record {
            placement = spot_placement g forms shape is s b.gives.is_spot;
            apart = false_from_ne_true (meet shape (tile_at forms s)) (λ e. not_marked barred s h.1 (are_barred.meeting s inside e));
            clear = λ y. not_marked barred s h.1 (are_barred.touching s inside y);
            touched = record { source = b.source; inside = b.inside; gives = b.gives.touches };
          },
        ))
        (λ t h.
        let s = placement_spot g forms shape is t h.placement in
        let b : IsBeside g forms h.touched.source s.0 = record { is_spot = s.1; touches = subst (Touch g h.touched.source) (sym s.2) h.touched.gives } in
        let clear = unmarked barred s.0 (let less = s.1.inside in let e = are_barred.are_forms in omega arith) (λ m. h.clear (subst (Touch g shape) s.2 (are_barred.only s.0 m (subst (Apart shape) (sym s.2) h.apart)))) in
        (s.0, (beside.every s.0 (record { source = h.touched.source; inside = h.touched.inside; gives = b }), clear), s.2))

    -- the spots of a level begin near 0
    pub spots_near : ((c : Cell) → has shape c ≡ true → IsWithin 200 c) → (k : ℕ) (spots : List Spot) → k ≤ 6 → AreSpotsOf g forms (IsAtLevel g shape k) spots → (s : Spot) → Contains spots s → IsWithin 50000 s.first
    spots_near near k spots few l s m =
        let some = (is.begins (form_of forms s) (member_at forms s.form [] (l.are_spots s m).inside)).some in
        let first = tile_first forms s some in
        level_near g shape law near k (map (tile_at forms) spots) few l.listed (tile_at forms s) s.first (member_map (tile_at forms) spots s m)
        (has-is (tile_at forms s) s.first (subst (λ zs. Contains zs s.first) (sym first.is) (member_here s.first first.rest)))

-- the spots beside one of the tiles of some spots
module _ (g : Geometry) (forms : List (List Cell)) (spots : List Spot) where
  pub from_tiles : (d : Spot) → FromOne (IsBeside g forms) (map (tile_at forms) spots) d → FromOne (λ t. IsBeside g forms (tile_at forms t)) spots d
  from_tiles d h = let t = map_member (tile_at forms) spots h.source h.inside in record { source = t.0; inside = t.1; gives = subst (λ z. IsBeside g forms z d) (sym t.2) h.gives }

  pub to_tiles : (d : Spot) → FromOne (λ t. IsBeside g forms (tile_at forms t)) spots d → FromOne (IsBeside g forms) (map (tile_at forms) spots) d
  to_tiles d h = record { source = tile_at forms h.source; inside = member_map (tile_at forms) spots h.source h.inside; gives = h.gives }
