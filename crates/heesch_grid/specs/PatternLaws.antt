-- The laws of the grid of a pattern that passes its tests.
use Rattle.std.proofs.Common.{◌++◌, max, nat_abs, int_le, IsTrue, IsFalse, All, not-suc-le-zero, ◌≡◌, ℕ, zero, suc, ◌+◌, ◌*◌, ◌<◌, ◌≤◌, Bool, true, false, not, cond, ◌&&◌, ◌||◌, ◌==◌, nat_lt, List, [], ◌∷◌, map, length, filter, AllPairs, ℤ, pos, negsuc, ◌+ℤ◌, ◌-ℤ◌, ◌≤ℤ◌, ◌<ℤ◌, int_lt, refl, sym, ap, ◌∙◌, arith, inl, inr}
use Rattle.std.specs.List.{list_any, list_all}
use Rattle.std.specs.Ordering.{int_eq}
use Rattle.std.proofs.lemmas.Int.{ints}
use Rattle.std.proofs.lemmas.Bool.{and_parts, and_from, or_cases, eqb-true, ltb-true, cases_Bool, true≢false, not-true}
use Rattle.std.proofs.lemmas.Bool.Decides.{Decides-int_eq}
use Rattle.std.proofs.lemmas.List.Elements.{All-cons, All-nil}
use Rattle.std.proofs.lemmas.List.Kept.{AllPairs-cons}
use Rattle.heesch_grid.specs.declared.Cell.{Cell}
use Rattle.heesch_grid.specs.declared.isometries.Iso.{Iso}
use Rattle.heesch_grid.specs.KindLemmas.{is_cell_moved, kind_found}
use Rattle.heesch_grid.specs.Integers.{same_truth}
use Rattle.heesch_grid.specs.Alike.{alike}
use Rattle.heesch_grid.specs.Neighbours.{table_test, table_near, table_turns, sharing_near, turned_is_cell, related, listed_related, related_listed, listed_kept, table_back, listed_back}
use Rattle.heesch_grid.specs.Listing.{is_rising, ListsExactly}
use Rattle.heesch_grid.specs.Cells.{cell, same_cell, cell_before, has}
use Rattle.heesch_grid.specs.Geometry.{Geometry, IsGrid, IsCell, Adjacent, Touching, apply, are_two_cells, shared_corners, same_point}
use Rattle.heesch_grid.specs.Vectors.{plus, minus, times, negated, IsWithin, row_from, box_from, box_of}
use Rattle.heesch_grid.specs.Pattern.{Pattern, Kind, kind_of, grid_of, turned, identity, composed, inverted, corners_of, shared}
use Rattle.heesch_grid.specs.Lists.{all_below, all_below_at, all_at, found, any_like, any_map, filter_like, length-filter_map, rising_by_test}
use Rattle.heesch_grid.specs.Pairs.{Cell-eta, same_cell-true, same_cell-is, same_cell-refl, turned_add, turned_within, small_turn, turn_after, turn_after_is, turn_eq, eq_turn, int_cases, within_abs, abs_within, has-true, All-by_members, or-left, or-right}
use Rattle.std.proofs.lemmas.List.Sums.{length-filter}
use Rattle.heesch_grid.specs.PatternTests.{Tests, turn_at, tables_fit, sides_test, goes_right, goes_left, goes_up, goes_down, is_two, is_some_number, all_differ, in_block_test, passes, passed}

-- ---- what the relations say
-- two different cells that share a number of corners of which rel holds
record Sharing (p : Pattern) (rel : ℕ → Bool) (c d : Cell) : Type 0 where
  pub c_in : (grid_of p).is_cell c ≡ true
  pub d_in : (grid_of p).is_cell d ≡ true
  pub differ : not (same_cell c d) ≡ true
  pub holds : rel (shared p c d) ≡ true

sharing_related : (p : Pattern) (rel : ℕ → Bool) (c d : Cell) → Sharing p rel c d → related p rel c d ≡ true
sharing_related p rel c d h =
    and_from ((grid_of p).is_cell d) (not (same_cell c d) && rel (shared p c d)) h.d_in (and_from (not (same_cell c d)) (rel (shared p c d)) h.differ h.holds)

related_sharing : (p : Pattern) (rel : ℕ → Bool) (c d : Cell) → (grid_of p).is_cell c ≡ true → related p rel c d ≡ true → Sharing p rel c d
related_sharing p rel c d c_in h =
    let x = and_parts ((grid_of p).is_cell d) (not (same_cell c d) && rel (shared p c d)) h in
    let y = and_parts (not (same_cell c d)) (rel (shared p c d)) x.1 in
    record { c_in = c_in; d_in = x.0; differ = y.0; holds = y.1 }

-- the pair as a point
abbrev point : Cell → ℤ × ℤ
point k = (k.a, k.b)

-- moved pairs that differ are different points
moved_differ : (w x y : Cell) → not (same_cell x y) ≡ true → same_point (point (plus w x)) (point (plus w y)) ≡ false
moved_differ w x y h =
    elim (cases_Bool (same_point (point (plus w x)) (point (plus w y)))) [
      | inr f ↦ f
      | inl t ↦
          let both = and_parts (int_eq (w.a +ℤ x.a) (w.a +ℤ y.a)) (int_eq (w.b +ℤ x.b) (w.b +ℤ y.b)) t in
          let ea = (Decides-int_eq (w.a +ℤ x.a) (w.a +ℤ y.a)).0 both.0 in
          let eb = (Decides-int_eq (w.b +ℤ x.b) (w.b +ℤ y.b)).0 both.1 in
          let s : same_cell x y ≡ true = same_cell-is x y (Cell-eta x y (omega (arith, ints)) (omega (arith, ints))) in
          absurd (true≢false (sym s ∙ not-true (same_cell x y) h))
    ]

points_differ_from : (w x : Cell) (xs : List Cell) → list_all (λ y. not (same_cell x y)) xs ≡ true → All (λ q. IsFalse (same_point (point (plus w x)) q)) (map point (map (plus w) xs))
points_differ_from w x [] h = All-nil (λ q. IsFalse (same_point (point (plus w x)) q))
points_differ_from w x (y ∷ ys) h =
    let both = and_parts (not (same_cell x y)) (list_all (λ y. not (same_cell x y)) ys) h in
    All-cons (λ q. IsFalse (same_point (point (plus w x)) q)) (point (plus w y)) (map point (map (plus w) ys)) (moved_differ w x y both.0) (points_differ_from w x ys both.1)

points_differ : (w : Cell) (xs : List Cell) → all_differ xs ≡ true → AllPairs (λ p q. IsFalse (same_point p q)) (map point (map (plus w) xs))
points_differ w [] h = λ i j d l m. absurd (not-suc-le-zero m)
points_differ w (x ∷ xs) h =
    let both = and_parts (list_all (λ y. not (same_cell x y)) xs) (all_differ xs) h in
    AllPairs-cons (λ p q. IsFalse (same_point p q)) (point (plus w x)) (map point (map (plus w) xs)) (points_differ_from w x xs both.0) (points_differ w xs both.1)

-- the corners as points are as many
shared_same : (p : Pattern) (c d : Cell) → shared_corners (grid_of p) c d ≡ shared p c d
shared_same p c d =
    let cs = corners_of p c in
    let ds = corners_of p d in
    let test : ℤ × ℤ → Bool = λ q. list_any (same_point q) (map point ds) in
    sym (length-filter test (map point cs)) ∙ length-filter_map test point cs ∙ ap length (filter_like (λ k. test (point k)) (has ds) cs (λ k. any_map (same_point (point k)) point ds))

-- the relation of a grid, and of its pattern
abbrev are_sharing : Geometry → (ℕ → Bool) → Cell → Cell → Bool
are_sharing g rel c d = are_two_cells g c d && rel (shared_corners g c d)

sharing_of : (p : Pattern) (rel : ℕ → Bool) (c d : Cell) → are_sharing (grid_of p) rel c d ≡ true → Sharing p rel c d
sharing_of p rel c d h =
    let g = grid_of p in
    let x = and_parts (are_two_cells g c d) (rel (shared_corners g c d)) h in
    let y = and_parts (g.is_cell c) (g.is_cell d && not (same_cell c d)) x.0 in
    let z = and_parts (g.is_cell d) (not (same_cell c d)) y.1 in
    record { c_in = y.0; d_in = z.0; differ = z.1; holds = ap rel (sym (shared_same p c d)) ∙ x.1 }

of_sharing : (p : Pattern) (rel : ℕ → Bool) (c d : Cell) → Sharing p rel c d → are_sharing (grid_of p) rel c d ≡ true
of_sharing p rel c d h =
    let g = grid_of p in
    and_from (are_two_cells g c d) (rel (shared_corners g c d))
    (and_from (g.is_cell c) (g.is_cell d && not (same_cell c d)) h.c_in (and_from (g.is_cell d) (not (same_cell c d)) h.d_in h.differ))
    (ap rel (shared_same p c d) ∙ h.holds)

-- ---- lists of cells
pub moved_member : (c d : Cell) (xs : List Cell) → list_any (same_cell d) (map (plus c) xs) ≡ list_any (same_cell (minus d c)) xs
moved_member c d xs =
    any_map (same_cell d) (plus c) xs ∙ any_like (λ x. same_cell d (plus c x)) (same_cell (minus d c)) xs (λ x. same_truth (same_cell d (plus c x)) (same_cell (minus d c) x)
    (λ h. let e = same_cell-true d (plus c x) h in same_cell-is (minus d c) x (Cell-eta (minus d c) x (omega (arith, ints, ap (λ z. z.a) e)) (omega (arith, ints, ap (λ z. z.b) e))))
    (λ h. let e = same_cell-true (minus d c) x h in same_cell-is d (plus c x) (Cell-eta d (plus c x) (omega (arith, ints, ap (λ z. z.a) e)) (omega (arith, ints, ap (λ z. z.b) e)))))

before_moved : (c x y : Cell) → cell_before x y ≡ true → cell_before (plus c x) (plus c y) ≡ true
before_moved c x y h = grind (arith, ints)

before_each : (c x : Cell) (xs : List Cell) → list_all (cell_before x) xs ≡ true → list_all (cell_before (plus c x)) (map (plus c) xs) ≡ true
before_each c x [] h = refl
before_each c x (y ∷ ys) h =
    let both = and_parts (cell_before x y) (list_all (cell_before x) ys) h in
    and_from (cell_before (plus c x) (plus c y)) (list_all (cell_before (plus c x)) (map (plus c) ys)) (before_moved c x y both.0) (before_each c x ys both.1)

pub rises_moved : (c : Cell) (xs : List Cell) → is_rising cell_before xs ≡ true → is_rising cell_before (map (plus c) xs) ≡ true
rises_moved c [] h = refl
rises_moved c (x ∷ xs) h =
    let both = and_parts (list_all (cell_before x) xs) (is_rising cell_before xs) h in
    and_from (list_all (cell_before (plus c x)) (map (plus c) xs)) (is_rising cell_before (map (plus c) xs)) (before_each c x xs both.0) (rises_moved c xs both.1)

length_moved : (c : Cell) (xs : List Cell) → length (map (plus c) xs) ≡ length xs
length_moved c [] = refl
length_moved c (x ∷ xs) = ap suc (length_moved c xs)

-- a member that passes
member_found : (p : Cell → Bool) (xs : List Cell) → list_any p xs ≡ true → (x : Cell) × (p x ≡ true) × (list_any (same_cell x) xs ≡ true)
member_found p [] h = absurd (true≢false (sym h))
member_found p (x ∷ xs) h =
    elim (or_cases (p x) (list_any p xs) h) [
      | inl e ↦ (x, e, ap (λ b. b || list_any (same_cell x) xs) (same_cell-refl x))
      | inr o ↦ let y = member_found p xs o in (y.0, y.1, or-right (same_cell y.0 x) (list_any (same_cell y.0) xs) y.2)
    ]

-- the pairs of a box
row_has : (a wide : ℕ) (b : ℤ) (c : Cell) → c.b ≡ b → pos a ≤ℤ c.a → c.a <ℤ pos (a + wide) → has (row_from a wide b) c ≡ true
row_has a zero b c e low high = absurd (omega (arith, ints))
row_has a (suc wide) b c e low high =
    elim (int_cases c.a (pos a)) [
      | inl h ↦ or-left (same_cell c (cell (pos a) b)) (has (row_from (suc a) wide b) c) (same_cell-is c (cell (pos a) b) (Cell-eta c (cell (pos a) b) h e))
      | inr h ↦ or-right (same_cell c (cell (pos a) b)) (has (row_from (suc a) wide b) c) (row_has (suc a) wide b c e (omega (arith, ints)) (omega (arith, ints)))
    ]

has_append : (xs ys : List Cell) (c : Cell) → has (xs ++ ys) c ≡ (has xs c || has ys c)
has_append [] ys c = refl
has_append (x ∷ xs) ys c = ap (λ b. same_cell c x || b) (has_append xs ys c) ∙ or_turn (same_cell c x) (has xs c) (has ys c)
  where
    or_turn : (x y z : Bool) → (x || (y || z)) ≡ ((x || y) || z)
    or_turn true y z = refl
    or_turn false y z = refl

box_has : (wide b high : ℕ) (c : Cell) → pos 0 ≤ℤ c.a → c.a <ℤ pos wide → pos b ≤ℤ c.b → c.b <ℤ pos (b + high) → has (box_from wide b high) c ≡ true
box_has wide b zero c al ah bl bh = absurd (omega (arith, ints))
box_has wide b (suc high) c al ah bl bh =
    let row = row_from 0 wide (pos b) in
    let rest = box_from wide (suc b) high in
    has_append row rest c
    ∙ elim (int_cases c.b (pos b)) [
      | inl h ↦ or-left (has row c) (has rest c) (row_has 0 wide (pos b) c h al (omega (arith, ints)))
      | inr h ↦ or-right (has row c) (has rest c) (box_has wide (suc b) high c al ah (omega (arith, ints)) (omega (arith, ints)))
    ]

has_filter : (t : Cell → Bool) (xs : List Cell) (c : Cell) → has xs c ≡ true → t c ≡ true → has (filter t xs) c ≡ true
has_filter t [] c h k = absurd (true≢false (sym h))
has_filter t (x ∷ xs) c h k =
    elim (or_cases (same_cell c x) (has xs c) h) [
      | inl e ↦
          let tx : t x ≡ true = ap t (sym (same_cell-true c x e)) ∙ k in
          ap (λ b. has (cond b (x ∷ filter t xs) (filter t xs)) c) tx ∙ or-left (same_cell c x) (has (filter t xs) c) e
      | inr o ↦ kept (t x) (has_filter t xs c o k)
    ]
  where
    kept : (b : Bool) → has (filter t xs) c ≡ true → has (cond b (x ∷ filter t xs) (filter t xs)) c ≡ true
    kept true h = or-right (same_cell c x) (has (filter t xs) c) h
    kept false h = h

-- one relation of a pattern, with its table
module _ (p : Pattern) (t : Tests p) (table : Kind → List Cell) (rel : ℕ → Bool) (count : ℕ) (some : (n : ℕ) → rel n ≡ true → 1 ≤ n) (fits : tables_fit p table count ≡ true) (exact : table_test p table rel ≡ true) (near : table_near p table ≡ true) (turns : table_turns p table ≡ true) (back : table_back p table ≡ true) where
  sharing_listed : (c d : Cell) → Sharing p rel c d → list_any (same_cell (minus d c)) (table (kind_of p.unit p.kinds c)) ≡ true
  sharing_listed c d h =
      related_listed p t.unit_low table rel exact near c d h.c_in (sharing_near p t.unit_low t.scale_low t.corners_near c d h.c_in h.d_in (some (shared p c d) h.holds)) (sharing_related p rel c d h)

  sharing_kept : (i : Iso) (c d : Cell) → i.turn < length p.turns → Sharing p rel c d → Sharing p rel (apply (grid_of p) i c) (apply (grid_of p) i d)
  sharing_kept i c d less h =
      let g = grid_of p in
      let c'_in = is_cell_moved p t.unit_low (turned (turn_at p i.turn) c) (cell i.da i.db) ∙ turned_is_cell p t.unit_low i.turn c t.cells_turn less h.c_in in
      related_sharing p rel (apply g i c) (apply g i d) c'_in (listed_kept p t.unit_low table rel exact near i c d t.cells_turn turns less h.c_in (sharing_listed c d h))

  sharing_back : (c d : Cell) → Sharing p rel c d → Sharing p rel d c
  sharing_back c d h =
      related_sharing p rel d c h.d_in (listed_back p t.unit_low table rel exact near c d back h.c_in h.d_in (sharing_listed c d h))

  -- the table at a cell lists just the cells in the relation
  sharing_lists : (c : Cell) → (grid_of p).is_cell c ≡ true → ListsExactly cell_before (λ d. IsTrue (are_sharing (grid_of p) rel c d)) (map (plus c) (table (kind_of p.unit p.kinds c))) × (length (map (plus c) (table (kind_of p.unit p.kinds c))) ≡ count)
  sharing_lists c c_in =
      let k = kind_of p.unit p.kinds c in
      let xs = table k in
      let f = kind_found p.unit (λ k. length (table k) == count && is_rising cell_before (table k)) p.kinds c fits c_in in
      let both = and_parts (length xs == count) (is_rising cell_before xs) f.0 in (
        record {
          rising = rising_by_test cell_before (map (plus c) xs) (rises_moved c xs both.1);
          only = All-by_members (λ d. IsTrue (are_sharing (grid_of p) rel c d)) (map (plus c) xs) (λ d h. of_sharing p rel c d (related_sharing p rel c d c_in (listed_related p t.unit_low table rel exact near c d c_in (sym (moved_member c d xs) ∙ h))));
          every = λ d h. has-true (map (plus c) xs) d (moved_member c d xs ∙ sharing_listed c d (sharing_of p rel c d h));
        },
        length_moved c xs ∙ eqb-true (length xs) count both.0,
      )

some_of_two : (n : ℕ) → is_two n ≡ true → 1 ≤ n
some_of_two n h = let e = eqb-true n 2 h in omega arith

some_of_some : (n : ℕ) → is_some_number n ≡ true → 1 ≤ n
some_of_some n h = let e = ltb-true 0 n h in omega arith

-- the greatest coordinate of a turned pair
bounded_by : (x y v w : ℤ) → ((n : ℕ) → IsWithin n (cell v w) → IsWithin (2 * n) (cell x y)) → max (nat_abs x) (nat_abs y) ≤ 2 * max (nat_abs v) (nat_abs w)
bounded_by x y v w h =
    let n = max (nat_abs v) (nat_abs w) in
    let r = h n (within_abs n (cell v w) (omega arith) (omega arith)) in
    let p = abs_within (2 * n) (cell x y) r in
    let pa = p.0 in
    let pb = p.1 in
    omega arith

module _ (p : Pattern) (t : Tests p) where
  beyond : (c : Cell) (side : Cell → Bool) → (grid_of p).is_cell c ≡ true → sides_test p side ≡ true → (x : Cell) × (side x ≡ true) × Adjacent (grid_of p) c (plus c x)
  beyond c side c_in test =
      let k = kind_of p.unit p.kinds c in
      let f = kind_found p.unit (λ k. list_any side k.adjacent) p.kinds c test c_in in
      let x = member_found side k.adjacent f.0 in
      let e : minus (plus c x.0) c ≡ x.0 = Cell-eta (minus (plus c x.0) c) x.0 (omega (arith, ints)) (omega (arith, ints)) in
      (x.0, x.1, of_sharing p is_two c (plus c x.0) (related_sharing p is_two c (plus c x.0) c_in (listed_related p t.unit_low (λ k. k.adjacent) is_two t.adjacent_test t.adjacent_near c (plus c x.0) c_in (ap (λ y. list_any (same_cell y) k.adjacent) e ∙ x.2))))

  -- the cells of the first square
  abbrev block_cells : List Cell
  block_cells = filter (grid_of p).is_cell (box_of p.unit p.unit)

  reach : (c d : Cell) → Touching (grid_of p) c d → (nat_abs (d.a -ℤ c.a) ≤ 4) × (nat_abs (d.b -ℤ c.b) ≤ 4)
  reach c d h =
      let s = sharing_of p is_some_number c d h in
      abs_within 4 (minus d c) (sharing_near p t.unit_low t.scale_low t.corners_near c d s.c_in s.d_in (some_of_some (shared p c d) s.holds))

  composed_parts : (k l : ℕ) → k < length p.turns → l < length p.turns → (composed p.rotations k l < length p.turns) × (turn_at p (composed p.rotations k l) ≡ turn_after (turn_at p l) (turn_at p k))
  composed_parts k l kl ll =
      let n = p.rotations in
      let size = length p.turns in
      let row = all_below_at (λ k. all_below (λ l. nat_lt (composed n k l) size && turn_eq (turn_at p (composed n k l)) (turn_after (turn_at p l) (turn_at p k))) size) size k t.composes kl in
      let entry = all_below_at (λ l. nat_lt (composed n k l) size && turn_eq (turn_at p (composed n k l)) (turn_after (turn_at p l) (turn_at p k))) size l row ll in
      let both = and_parts (nat_lt (composed n k l) size) (turn_eq (turn_at p (composed n k l)) (turn_after (turn_at p l) (turn_at p k))) entry in
      (ltb-true (composed n k l) size both.0, eq_turn (turn_at p (composed n k l)) (turn_after (turn_at p l) (turn_at p k)) both.1)

  composes : (k l : ℕ) (c : Cell) → k < length p.turns → l < length p.turns → turned (turn_at p (composed p.rotations k l)) c ≡ turned (turn_at p l) (turned (turn_at p k) c)
  composes k l c kl ll =
      ap (λ s. turned s c) (composed_parts k l kl ll).1 ∙ turn_after_is (turn_at p l) (turn_at p k) c

  inverse_parts : (k : ℕ) → k < length p.turns → (inverted p.rotations k < length p.turns) × (composed p.rotations k (inverted p.rotations k) ≡ 0) × (composed p.rotations (inverted p.rotations k) k ≡ 0)
  inverse_parts k kl =
      let n = p.rotations in
      let i = inverted n k in
      let size = length p.turns in
      let entry = all_below_at (λ k. nat_lt (inverted n k) size && (composed n k (inverted n k) == 0 && composed n (inverted n k) k == 0)) size k t.inverts kl in
      let x = and_parts (nat_lt i size) (composed n k i == 0 && composed n i k == 0) entry in
      let y = and_parts (composed n k i == 0) (composed n i k == 0) x.1 in
      (ltb-true i size x.0, eqb-true (composed n k i) 0 y.0, eqb-true (composed n i k) 0 y.1)

  first_turn : (c : Cell) → turned (turn_at p 0) c ≡ c
  first_turn c = ap (λ s. turned s c) t.turn_0_is ∙ Cell-eta (turned identity c) c (omega (arith, ints)) (omega (arith, ints))

  pub pattern_laws : IsGrid (grid_of p)
  pattern_laws = record {
    unit_range = (t.unit_low, t.unit_high);
    per_range = (t.per_low, t.per_high);
    turns_range = (t.turns_low, t.turns_high);
    half_turn_below = t.half_turn_below;
    identity = first_turn;
    half = λ c. ap (λ s. turned s c) t.half_turn_is ∙ Cell-eta (turned (record { new_a = cell (negsuc 0) (pos 0); new_b = cell (pos 0) (negsuc 0) }) c) (negated c) (omega (arith, ints)) (omega (arith, ints));
    compose = λ k l kl ll. ((composed_parts k l kl ll).0, λ c. composes k l c kl ll);
    inverse = λ k kl.
        let i = inverse_parts k kl in
        (i.0, λ c. (sym (composes k (inverted p.rotations k) c kl i.0) ∙ ap (λ m. turned (turn_at p m) c) i.1 ∙ first_turn c, sym (composes (inverted p.rotations k) k c i.0 kl) ∙ ap (λ m. turned (turn_at p m) c) i.2 ∙ first_turn c));
    additive = λ k kl c d. turned_add (turn_at p k) c d;
    bounded = λ k kl c. let d = turned (turn_at p k) c in bounded_by d.a d.b c.a c.b (λ n w. turned_within (turn_at p k) c n (all_at small_turn p.turns k identity t.small_turns kl) w);
    cells_kept = λ by less c c_in. is_cell_moved p t.unit_low (turned (turn_at p by.turn) c) (cell by.da by.db) ∙ turned_is_cell p t.unit_low by.turn c t.cells_turn less c_in;
    adjacent_kept = λ by less c d h. of_sharing p is_two (apply (grid_of p) by c) (apply (grid_of p) by d) (sharing_kept p t (λ k. k.adjacent) is_two p.adjacent_count some_of_two t.adjacent_fits t.adjacent_test t.adjacent_near t.adjacent_turns t.adjacent_back by c d less (sharing_of p is_two c d h));
    touching_kept = λ by less c d h. of_sharing p is_some_number (apply (grid_of p) by c) (apply (grid_of p) by d) (sharing_kept p t (λ k. k.touching) is_some_number p.touching_count some_of_some t.touching_fits t.touching_test t.touching_near t.touching_turns t.touching_back by c d less (sharing_of p is_some_number c d h));
    corners_differ = λ c c_in. points_differ (times p.scale c) (kind_of p.unit p.kinds c).corners (kind_found p.unit (λ k. all_differ k.corners) p.kinds c t.corners_differ c_in).0;
    adjacent_back = λ c d h. of_sharing p is_two d c (sharing_back p t (λ k. k.adjacent) is_two p.adjacent_count some_of_two t.adjacent_fits t.adjacent_test t.adjacent_near t.adjacent_turns t.adjacent_back c d (sharing_of p is_two c d h));
    touching_back = λ c d h. of_sharing p is_some_number d c (sharing_back p t (λ k. k.touching) is_some_number p.touching_count some_of_some t.touching_fits t.touching_test t.touching_near t.touching_turns t.touching_back c d (sharing_of p is_some_number c d h));
    adjacent_range = t.adjacent_high;
    touching_range = t.touching_high;
    adjacent_listed = λ c c_in. sharing_lists p t (λ k. k.adjacent) is_two p.adjacent_count some_of_two t.adjacent_fits t.adjacent_test t.adjacent_near t.adjacent_turns t.adjacent_back c c_in;
    touching_listed = λ c c_in. sharing_lists p t (λ k. k.touching) is_some_number p.touching_count some_of_some t.touching_fits t.touching_test t.touching_near t.touching_turns t.touching_back c c_in;
    reach = reach;
    block = (
      block_cells,
      record {
        rising = rising_by_test cell_before block_cells t.block_rises;
        only = All-by_members (λ c. IsCell (grid_of p) c × (pos 0 ≤ℤ c.a) × (c.a <ℤ pos p.unit) × (pos 0 ≤ℤ c.b) × (c.b <ℤ pos p.unit)) block_cells (λ c h. in_block c h);
        every = λ c h. has-true block_cells c (has_filter (grid_of p).is_cell (box_of p.unit p.unit) c (box_has p.unit 0 p.unit c h.1 h.2 h.3 (let below = h.4 in omega (arith, ints))) h.0);
      },
      t.per_exact,
    );
    alike = λ c d c_in d_in. alike p t.unit_low t.kinds_alike c d c_in d_in;
    greater_a = λ c c_in. let r = beyond c goes_right c_in t.right in (plus c r.0, r.2, omega (arith, ints, r.1));
    smaller_a = λ c c_in. let r = beyond c goes_left c_in t.left in (plus c r.0, r.2, omega (arith, ints, r.1));
    greater_b = λ c c_in. let r = beyond c goes_up c_in t.above in (plus c r.0, r.2, omega (arith, ints, r.1));
    smaller_b = λ c c_in. let r = beyond c goes_down c_in t.below in (plus c r.0, r.2, omega (arith, ints, r.1));
  }
    where
      in_block : (c : Cell) → has block_cells c ≡ true → IsCell (grid_of p) c × (pos 0 ≤ℤ c.a) × (c.a <ℤ pos p.unit) × (pos 0 ≤ℤ c.b) × (c.b <ℤ pos p.unit)
      in_block c h =
          let x = found (same_cell c) (in_block_test p) block_cells h t.block_within in
          let e : in_block_test p c ≡ true = ap (in_block_test p) (same_cell-true c x.0 x.1) ∙ x.2 in
          let u = and_parts ((grid_of p).is_cell c) (int_le (pos 0) c.a && (int_lt c.a (pos p.unit) && (int_le (pos 0) c.b && int_lt c.b (pos p.unit)))) e in
          let v = and_parts (int_le (pos 0) c.a) (int_lt c.a (pos p.unit) && (int_le (pos 0) c.b && int_lt c.b (pos p.unit))) u.1 in
          let w = and_parts (int_lt c.a (pos p.unit)) (int_le (pos 0) c.b && int_lt c.b (pos p.unit)) v.1 in
          let z = and_parts (int_le (pos 0) c.b) (int_lt c.b (pos p.unit)) w.1 in
          (u.0, omega (arith, ints, v.0), omega (arith, ints, w.0), omega (arith, ints, z.0), omega (arith, ints, z.1))

-- the laws of a pattern by its tests
pub laws_by_tests : (p : Pattern) → passes p ≡ true → IsGrid (grid_of p)
laws_by_tests p h = pattern_laws p (passed p h)
