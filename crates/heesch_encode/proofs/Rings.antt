-- The cells around a tile, and the variables that have one of some cells.
use Rattle.std.proofs.Common.{◌≡◌, refl, sym, ap, subst, ◌∙◌, ℕ, zero, suc, ◌+◌, ◌<◌, ◌≤◌, List, [], ◌∷◌, filter, length, take, drop, get_or, Bool, true, false, cond, not, ◌&&◌, inl, inr, ◌⊎◌, arith, All, Contains, true≢false, IsPermutation, IsSorted, lt-ltb, le-ltb, ltb-true, leb-true, le-leb, eqb-true, eq-eqb}
use Rattle.std.specs.Prelude.{Some, unwrap_or, nat_lt, nat_le, ◌==◌, flat_map}
use Rattle.std.specs.declared.cmp.Ordering.{Ordering}
use Rattle.std.specs.declared.cmp.Ordering.TheVariants.{Less}
use Rattle.std.specs.List.{slice_get, enumerate_from, dedup}
use Rattle.std.specs.Ordering.{is_lt}
use Rattle.std.specs.Cmp.{IsTotalOrder}
use Rattle.std.proofs.lemmas.Bool.{and_parts, and_from, cases_Bool, cases_lt, not-true}
use Rattle.std.proofs.lemmas.Cmp.{then_total, on_total, int_cmp_total}
use Rattle.std.proofs.lemmas.List.Elements.{All-nil, All-contains}
use Rattle.heesch_grid.specs.declared.Cell.{Cell}
use Rattle.heesch_grid.specs.Listing.{IsRising, ListsExactly}
use Rattle.heesch_grid.specs.Cells.{same_cell, cell_before, cell_cmp, has, meet}
use Rattle.heesch_grid.specs.Geometry.{Geometry, IsGrid, IsCell, Touching, IsAround}
use Rattle.heesch_grid.specs.Polyform.{IsCellSet}
use Rattle.heesch_grid.specs.Placement.{touch}
use Rattle.heesch_grid.specs.CoronaFormula.{Variable, covers, IsNumbered}
use Rattle.heesch_grid.specs.Pairs.{has-true, same_cell-true}
use Rattle.heesch_grid.specs.Integers.{same_truth}
use Rattle.heesch_grid.proofs.ListFacts.{filter_member, member_filter, same_rising, rising_filter, All-from_members}
use Rattle.heesch_grid.proofs.CellFacts.{has-is, has-false, meet-true, meet-is}
use Rattle.heesch_grid.proofs.ClauseFacts.{entry_at, entry_same}
use Rattle.heesch_grid.proofs.OrderFacts.{cell_less, cell_equal}
use Rattle.heesch_grid.proofs.WindowFacts.{map_member, member_map, flat_map_member, member_flat_map}
use Rattle.heesch_grid.proofs.TileFacts.{contact, touch_by}
use Rattle.heesch_shape.proofs.Made.{same_cell_laws}
use Rattle.heesch_place.specs.Universes.{covering}
use Rattle.heesch_encode.specs.declared.marks.Change.{Change}
use Rattle.heesch_encode.specs.Marks.{IsMarked, Marking, Unmarking, Changes, AreUnmarked}
use Rattle.heesch_encode.specs.Meeting.{covering_after, meeting_after, supporting}
use Rattle.heesch_encode.proofs.Rising.{listed, nat_lt-irreflexive, nat_lt-asymmetric, pieces_more}
use Rattle.heesch_encode.proofs.ClauseLists.{numbers_rising, entry_range}
use Rattle.heesch_encode.proofs.Marking.{changes_more}

-- ---- the element at a place

pub place_read : {X : Type 0} (xs : List X) (i : ℕ) (x : X) → slice_get xs i ≡ Some x → get_or xs i x ≡ x
place_read [] i x e = refl
place_read (y ∷ ys) zero x e = ap (λ o. unwrap_or o x) e
place_read (y ∷ ys) (suc i) x e = place_read ys i x e

-- ---- the cells around a tile

-- the neighbours of a cell of the tile that aren't its own
abbrev pub outer : Geometry → List Cell → Cell → List Cell
outer g tile c = filter (λ d. not (has tile d)) (g.touching c)

module _ (g : Geometry) (law : IsGrid g) (tile : List Cell) where
  pub outer_around : IsCellSet g tile → (d : Cell) → Contains (flat_map (outer g tile) tile) d → IsAround g tile d
  outer_around is_set d m =
      let r = flat_map_member (outer g tile) tile d m in
      let f = filter_member (λ d. not (has tile d)) (g.touching r.0) d r.2 in
      let listed = (law.touching_listed r.0 (All-contains (IsCell g) tile r.0 is_set.in_grid r.1)).0 in
      record { outside = has-false tile d (not-true (has tile d) f.1); member = r.0; inside = r.1; touching = All-contains (Touching g r.0) (g.touching r.0) d listed.only f.0 }

  pub around_outer : IsCellSet g tile → (d : Cell) → IsAround g tile d → Contains (flat_map (outer g tile) tile) d
  around_outer is_set d a =
      let listed = (law.touching_listed a.member (All-contains (IsCell g) tile a.member is_set.in_grid a.inside)).0 in
      member_flat_map (outer g tile) tile a.member d a.inside (member_filter (λ d. not (has tile d)) (g.touching a.member) d (listed.every d a.touching) (outside (cases_Bool (has tile d)) a.outside))
    where
      outside : (has tile d ≡ true) ⊎ (has tile d ≡ false) → (¬ Contains tile d) → not (has tile d) ≡ true
      outside (inl t) o = absurd (o (has-true tile d t))
      outside (inr f) o = ap not f

-- ---- sorted, and each kept once

cell_total : IsTotalOrder cell_cmp
cell_total = then_total (on_total (λ (c : Cell). c.b) int_cmp_total) (on_total (λ (c : Cell). c.a) int_cmp_total)

less_is_lt : (o : Ordering) → o ≡ Less → is_lt o ≡ true
less_is_lt o e = ap is_lt e

-- cells that were sorted, and each kept once
pub cells_listed : (P : Cell → Type 0) (all ys zs : List Cell) → ((c : Cell) → Contains all c → P c) → ((c : Cell) → P c → Contains all c) → IsPermutation all ys → IsSorted cell_cmp ys → zs ≡ dedup same_cell ys → ListsExactly cell_before P zs
cells_listed P all ys zs only every p sorted made =
    listed cell_cmp cell_before same_cell cell_total same_cell_laws (λ x y. sym (cell_equal x y)) same_cell-true (λ x y e. sym (cell_less x y) ∙ less_is_lt (cell_cmp x y) e) P all ys zs only every p sorted made

-- the neighbours that aren't the tile's own, so made a list, are the cells around it
pub ring_listed : (g : Geometry) → IsGrid g → (tile : List Cell) → IsCellSet g tile → (all ys zs : List Cell) → all ≡ flat_map (outer g tile) tile → IsPermutation all ys → IsSorted cell_cmp ys → zs ≡ dedup same_cell ys → ListsExactly cell_before (IsAround g tile) zs
ring_listed g law tile is_set all ys zs is p sorted made =
    cells_listed (IsAround g tile) all ys zs (λ d m. outer_around g law tile is_set d (subst (λ ws. Contains ws d) is m)) (λ d a. subst (λ ws. Contains ws d) (sym is) (around_outer g law tile is_set d a)) p sorted made

-- ---- variables by cells

abbrev Entries : Type 0
Entries = List (ℕ × Variable)

-- the numbers of a rising list above n stand at its end
pub filter_back : (n : ℕ) (xs : List ℕ) (at : ℕ) → All (λ m. m < n + 1) (take at xs) → All (λ m. n + 1 ≤ m) (drop at xs) → filter (nat_lt n) xs ≡ drop at xs
filter_back n [] zero low high = refl
filter_back n [] (suc at) low high = refl
filter_back n (x ∷ xs) zero low high =
    let first = high 0 x (omega arith) in
    ap (λ b. cond b (x ∷ filter (nat_lt n) xs) (filter (nat_lt n) xs)) (lt-ltb n x (omega arith)) ∙ ap (λ zs. x ∷ zs) (filter_back n xs zero (All-nil (λ m. m < n + 1)) (λ k d l. high (suc k) d (omega arith)) ∙ all_dropped xs)
  where
    all_dropped : (xs : List ℕ) → drop 0 xs ≡ xs
    all_dropped [] = refl
    all_dropped (x ∷ xs) = refl
filter_back n (x ∷ xs) (suc at) low high =
    let first = low 0 x (omega arith) in
    ap (λ b. cond b (x ∷ filter (nat_lt n) xs) (filter (nat_lt n) xs)) (le-ltb n x (omega arith)) ∙ filter_back n xs at (λ k d l. low (suc k) d (omega arith)) high

pub after_rising : (vars : List Variable) (above most : ℕ) (c : Cell) → IsRising nat_lt (covering_after vars above most c)
after_rising vars above most c = rising_filter nat_lt (nat_lt above) (covering vars most c) (numbers_rising vars (covers most c))

-- the variable of the number is above `above`, of level at most `most`, and its tile has one of the cells
pub record IsMeeting (vars : List Variable) (above most : ℕ) (cells : List Cell) (n : ℕ) : Type 0 where
  pub of : Variable
  pub is_in : Contains (enumerate_from 1 vars) (n, of)
  pub after : above < n
  pub level : of.level ≤ most
  pub cell : Cell
  pub given : Contains cells cell
  pub own : Contains of.tile cell

-- the number at a cell
covered_entry : (vars : List Variable) (most : ℕ) (c : Cell) (n : ℕ) → Contains (covering vars most c) n → (v : Variable) × Contains (enumerate_from 1 vars) (n, v) × (v.level ≤ most) × Contains v.tile c
covered_entry vars most c n m =
    let k = map_member (λ (x : ℕ × Variable). x.0) (filter (covers most c) (enumerate_from 1 vars)) n m in
    let f = filter_member (covers most c) (enumerate_from 1 vars) k.0 k.1 in
    let both = and_parts (nat_le k.0.1.level most) (has k.0.1.tile c) f.1 in
    let pair : k.0 ≡ (n, k.0.1) = λ i. (k.2 i, k.0.1) in
    (k.0.1, subst (Contains (enumerate_from 1 vars)) pair f.0, leb-true k.0.1.level most both.0, has-true k.0.1.tile c both.1)

pub numbers_range : (vars : List Variable) (most : ℕ) (c : Cell) (n : ℕ) → Contains (covering vars most c) n → n ≤ length vars
numbers_range vars most c n m = let e = covered_entry vars most c n m in (entry_range vars (n, e.0) e.1).1

pub covering_small : (vars : List Variable) (most : ℕ) (c : Cell) (size : ℕ) → length vars < size → All (λ n. n < size) (covering vars most c)
covering_small vars most c size l = All-from_members (λ n. n < size) (covering vars most c) (λ n m. let r = numbers_range vars most c n m in omega arith)

pub after_small : (vars : List Variable) (above most : ℕ) (c : Cell) (size : ℕ) → length vars < size → All (λ n. n < size) (covering_after vars above most c)
after_small vars above most c size l = All-from_members (λ n. n < size) (covering_after vars above most c) (λ n m. let r = numbers_range vars most c n (filter_member (nat_lt above) (covering vars most c) n m).0 in omega arith)

pub meeting_found : (vars : List Variable) (above most : ℕ) (cells : List Cell) (n : ℕ) → Contains (flat_map (covering_after vars above most) cells) n → IsMeeting vars above most cells n
meeting_found vars above most cells n m =
    let r = flat_map_member (covering_after vars above most) cells n m in
    let f = filter_member (nat_lt above) (covering vars most r.0) n r.2 in
    let e = covered_entry vars most r.0 n f.0 in
    record { of = e.0; is_in = e.1; after = ltb-true above n f.1; level = e.2; cell = r.0; given = r.1; own = e.3 }

pub found_meeting : (vars : List Variable) (above most : ℕ) (cells : List Cell) (n : ℕ) → IsMeeting vars above most cells n → Contains (flat_map (covering_after vars above most) cells) n
found_meeting vars above most cells n r =
    member_flat_map (covering_after vars above most) cells r.cell n r.given
    (member_filter (nat_lt above) (covering vars most r.cell) n
    (member_map (λ (x : ℕ × Variable). x.0) (filter (covers most r.cell) (enumerate_from 1 vars)) (n, r.of)
    (member_filter (covers most r.cell) (enumerate_from 1 vars) (n, r.of) r.is_in (and_from (nat_le r.of.level most) (has r.of.tile r.cell) (le-leb r.of.level most r.level) (has-is r.of.tile r.cell r.own))))
    (lt-ltb above n r.after))

abbrev meeting_test : ℕ → ℕ → List Cell → ℕ × Variable → Bool
meeting_test above most cells x = (nat_lt above x.0 && nat_le x.1.level most) && meet cells x.1.tile

-- a rising list of these numbers is that of the variables
pub meeting_is : (vars : List Variable) (above most : ℕ) (cells : List Cell) (ns : List ℕ) → ListsExactly nat_lt (Contains (flat_map (covering_after vars above most) cells)) ns → ns ≡ meeting_after vars above most cells
meeting_is vars above most cells ns listed =
    same_rising nat_lt nat_lt-irreflexive nat_lt-asymmetric ns (meeting_after vars above most cells) listed.rising (numbers_rising vars (meeting_test above most cells))
    (λ n m.
    let r = meeting_found vars above most cells n (All-contains (Contains (flat_map (covering_after vars above most) cells)) ns n listed.only m) in
    member_map (λ (x : ℕ × Variable). x.0) (filter (meeting_test above most cells) (enumerate_from 1 vars)) (n, r.of)
    (member_filter (meeting_test above most cells) (enumerate_from 1 vars) (n, r.of) r.is_in
    (and_from (nat_lt above n && nat_le r.of.level most) (meet cells r.of.tile) (and_from (nat_lt above n) (nat_le r.of.level most) (lt-ltb above n r.after) (le-leb r.of.level most r.level)) (meet-is cells r.of.tile r.cell r.given r.own))))
    (λ n m.
    let k = map_member (λ (x : ℕ × Variable). x.0) (filter (meeting_test above most cells) (enumerate_from 1 vars)) n m in
    let f = filter_member (meeting_test above most cells) (enumerate_from 1 vars) k.0 k.1 in
    let both = and_parts (nat_lt above k.0.0 && nat_le k.0.1.level most) (meet cells k.0.1.tile) f.1 in
    let tests = and_parts (nat_lt above k.0.0) (nat_le k.0.1.level most) both.0 in
    let r = meet-true cells k.0.1.tile both.1 in
    let found = found_meeting vars above most cells k.0.0 (record { of = k.0.1; is_in = f.0; after = ltb-true above k.0.0 tests.0; level = leb-true k.0.1.level most tests.1; cell = r.0; given = r.1; own = r.2 }) in
    listed.every n (subst (Contains (flat_map (covering_after vars above most) cells)) k.2 found))

-- ---- the same by marks

pub changes_pieces : (change : Change) (f : Cell → List ℕ) (xs : List Cell) (i : ℕ) (d : Cell) (a b c : List ℕ) → i < length xs → Changes change a b (flat_map f (take i xs)) → Changes change b c (f (get_or xs i d)) → Changes change a c (flat_map f (take (i + 1) xs))
changes_pieces change f xs i d a b c l s t = subst (Changes change a c) (sym (pieces_more f xs i d l)) (changes_more change a b c (flat_map f (take i xs)) (f (get_or xs i d)) s t)

pub marked_lists : (most : ℕ) (a b numbers ns : List ℕ) → AreUnmarked most a → Marking a b numbers → ListsExactly nat_lt (IsMarked b) ns → ListsExactly nat_lt (Contains numbers) ns
marked_lists most a b numbers ns none m listed = record {
  rising = listed.rising;
  only = All-from_members (Contains numbers) ns (λ n k. elim (m.only n (All-contains (IsMarked b) ns n listed.only k)) [ inl o ↦ absurd (none.none n o) | inr h ↦ h ]);
  every = λ n k. listed.every n (m.all n k);
}

-- ---- variables of a level whose tile touches another

module _ (g : Geometry) (law : IsGrid g) (tile ring : List Cell) (is_ring : ListsExactly cell_before (IsAround g tile) ring) where
  -- a tile that touches this one is apart from it and has a cell around it
  touch_ring : (other : List Cell) → touch g other tile ≡ (meet ring other && not (meet other tile))
  touch_ring other = same_truth (touch g other tile) (meet ring other && not (meet other tile)) to back
    where
      to : touch g other tile ≡ true → (meet ring other && not (meet other tile)) ≡ true
      to t =
          let k = contact g other tile t in
          let out : ¬ Contains tile k.first = λ m. true≢false (sym (meet-is other tile k.first k.in_first m) ∙ k.apart) in
          and_from (meet ring other) (not (meet other tile))
          (meet-is ring other k.first (is_ring.every k.first (record { outside = out; member = k.second; inside = k.in_second; touching = law.touching_back k.first k.second k.touching })) k.in_first) (ap not k.apart)

      back : (meet ring other && not (meet other tile)) ≡ true → touch g other tile ≡ true
      back t =
          let both = and_parts (meet ring other) (not (meet other tile)) t in
          let r = meet-true ring other both.0 in
          let a = All-contains (IsAround g tile) ring r.0 is_ring.only r.1 in
          touch_by g other tile (record { apart = not-true (meet other tile) both.1; first = r.0; second = a.member; in_first = r.2; in_second = a.inside; touching = law.touching_back a.member r.0 a.touching })

  -- the numbers up to `above` are those of lower levels, and those of the level are marked where the tile has one of the ring's cells and not where it has one of its own
  pub supporting_is : (vars : List Variable) (above level most : ℕ) (a b c ns : List ℕ) →
      ((n : ℕ) (x : Variable) → IsNumbered vars n x → n ≤ above → x.level < level) → ((n : ℕ) (x : Variable) → IsNumbered vars n x → above < n → level ≤ x.level) →
      AreUnmarked most a → Marking a b (flat_map (covering_after vars above level) ring) → Unmarking b c (flat_map (covering_after vars above level) tile) → ListsExactly nat_lt (IsMarked c) ns → ns ≡ supporting g vars level tile
  supporting_is vars above level most a b c ns low high none marks unmarks listed =
      same_rising nat_lt nat_lt-irreflexive nat_lt-asymmetric ns (supporting g vars level tile) listed.rising (numbers_rising vars test)
      (λ n m. to n (All-contains (IsMarked c) ns n listed.only m))
      (λ n m.
      let k = map_member (λ (x : ℕ × Variable). x.0) (filter test (enumerate_from 1 vars)) n m in
      let f = filter_member test (enumerate_from 1 vars) k.0 k.1 in
      listed.every n (subst (IsMarked c) k.2 (back k.0.0 k.0.1 f.0 f.1)))
    where
      test : ℕ × Variable → Bool
      test x = x.1.level == level && touch g x.1.tile tile

      own : List ℕ
      own = flat_map (covering_after vars above level) tile

      to : (n : ℕ) → IsMarked c n → Contains (supporting g vars level tile) n
      to n m =
          let r : IsMeeting vars above level ring n = elim (marks.only n (unmarks.only n m)) [ inl o ↦ absurd (none.none n o) | inr h ↦ meeting_found vars above level ring n h ] in
          let up = high n r.of (entry_at vars 1 (n, r.of) r.is_in) r.after in
          let below = r.level in
          let apart : meet r.of.tile tile ≡ false = elim (cases_Bool (meet r.of.tile tile)) [
            | inr e ↦ e
            | inl t ↦ let k = meet-true r.of.tile tile t in absurd (unmarks.none n (found_meeting vars above level tile n (record { of = r.of; is_in = r.is_in; after = r.after; level = r.level; cell = k.0; given = k.2; own = k.1 })) m)
          ]
          in
          member_map (λ (x : ℕ × Variable). x.0) (filter test (enumerate_from 1 vars)) (n, r.of)
          (member_filter test (enumerate_from 1 vars) (n, r.of) r.is_in
          (and_from (r.of.level == level) (touch g r.of.tile tile) (eq-eqb r.of.level level (omega arith)) (touch_ring r.of.tile ∙ and_from (meet ring r.of.tile) (not (meet r.of.tile tile)) (meet-is ring r.of.tile r.cell r.given r.own) (ap not apart))))

      back : (n : ℕ) (v : Variable) → Contains (enumerate_from 1 vars) (n, v) → test (n, v) ≡ true → IsMarked c n
      back n v is_in t =
          let both = and_parts (v.level == level) (touch g v.tile tile) t in
          let at = eqb-true v.level level both.0 in
          let parts = and_parts (meet ring v.tile) (not (meet v.tile tile)) (sym (touch_ring v.tile) ∙ both.1) in
          let k = meet-true ring v.tile parts.0 in
          let after : above < n = elim (cases_lt above n) [ inl l ↦ l | inr l ↦ let less = low n v (entry_at vars 1 (n, v) is_in) l in absurd (omega arith) ] in
          let marked = marks.all n (found_meeting vars above level ring n (record { of = v; is_in = is_in; after = after; level = omega arith; cell = k.0; given = k.1; own = k.2 })) in
          unmarks.kept n marked
          (λ h.
          let r = meeting_found vars above level tile n h in
          let same : r.of ≡ v = entry_same vars (n, r.of) (n, v) r.is_in is_in refl in
          true≢false (sym (meet-is v.tile tile r.cell (subst (λ (z : Variable). Contains z.tile r.cell) same r.own) r.given) ∙ not-true (meet v.tile tile) parts.1))
