-- A spread over the places of a hole, and the part that it reaches.
use Rattle.std.proofs.Common.{◌≡◌, refl, sym, ap, subst, ◌∙◌, ℕ, zero, suc, ◌+◌, ◌-◌, ◌<◌, ◌≤◌, ◌⊎◌, Bool, true, false, not, cond, List, [], ◌∷◌, ◌++◌, length, get_or, set, take, map, filter, All, Contains, Some, pos, arith, inl, inr, true≢false, eq-eqb, eqb-true}
use Rattle.std.specs.Prelude.{nat_eq, IsTrue, None, unwrap_or, count_by}
use Rattle.std.specs.List.{enumerate_from, slice_get}
use Rattle.std.proofs.lemmas.Bool.{cases_Bool}
use Rattle.std.proofs.lemmas.List.{get_or_read, length-set, length_push, take_more, take_all, map-append}
use Rattle.std.proofs.lemmas.List.Sums.{sum_by-set}
use Rattle.std.proofs.lemmas.List.Elements.{All-contains, All-get_or, All-weaker, All-push, filter-append, Contains-append_left, Contains-get_or, Contains-push, Contains-push_cases}
use Rattle.std.proofs.lemmas.List.FromFn.{length-enumerate_from, get_or-enumerate_from}
use Rattle.std.proofs.lemmas.Option.{get_or_from_slice_get}
use Rattle.heesch_grid.specs.declared.Cell.{Cell}
use Rattle.heesch_grid.specs.Listing.{IsRising}
use Rattle.heesch_grid.specs.Cells.{cell, cell_before, has}
use Rattle.heesch_grid.specs.Pairs.{has-true}
use Rattle.heesch_grid.specs.Geometry.{Geometry, IsGrid, IsCell, Adjacent}
use Rattle.heesch_grid.proofs.CellFacts.{has-false, cell_before-irreflexive}
use Rattle.heesch_grid.proofs.GridFacts.{adjacent_exact}
use Rattle.heesch_grid.proofs.ListFacts.{member_at, All-from_members, rising_filter, member_filter, filter_member}
use Rattle.heesch_grid.proofs.ClauseFacts.{entry_at, entry_variable}
use Rattle.heesch_grid.proofs.WindowFacts.{member_map, map_member}
use Rattle.heesch_cuts.specs.Marks.{is_marked}
use Rattle.heesch_cuts.specs.Patches.{Grows}
use Rattle.heesch_cuts.specs.Parts.{IsClosedPart, IsReached, IsSurrounded, IsClosed, WentOn, IsSpread, marked_cells}
use Rattle.heesch_cuts.proofs.Marking.{marked-set_other}
use Rattle.heesch_cuts.proofs.Bordering.{grows_set}
use Rattle.heesch_cuts.proofs.Covering.{get_at, get_below}

-- ---- places

abbrev zero_cell : Cell
zero_cell = cell (pos 0) (pos 0)

-- what an index inside reads is at that place
pub at_place : (hole : List Cell) (i : ℕ) (d : Cell) → i < length hole → slice_get hole i ≡ Some (get_or hole i d)
at_place [] i d l = absurd (omega arith)
at_place (x ∷ xs) zero d l = refl
at_place (x ∷ xs) (suc i) d l = at_place xs i d (omega arith)

-- the mark that is read at a place
pub read_mark : (reached : List Bool) (p : ℕ) (read b : Bool) → p < length reached → read ≡ get_or reached p read → read ≡ b → is_marked reached p ≡ b
read_mark reached p read b less at is = sym (get_or_read reached p read less at false) ∙ is

-- a cell stands at one place
pub one_place : (hole : List Cell) → IsRising cell_before hole → (p q : ℕ) (c : Cell) → slice_get hole p ≡ Some c → slice_get hole q ≡ Some c → p ≡ q
one_place [] r p q c e f = absurd (none_some e)
  where
    none_some : None ≡ Some c → ⊥
    none_some e = cc
one_place (x ∷ xs) r zero zero c e f = refl
one_place (x ∷ xs) r zero (suc q) c e f = absurd (after x xs c r.0 (some_same e) (member_at xs q c f))
  where
    some_same : Some x ≡ Some c → x ≡ c
    some_same e = cc

    after : (x : Cell) (xs : List Cell) (c : Cell) → All (λ y. IsTrue (cell_before x y)) xs → x ≡ c → Contains xs c → ⊥
    after x xs c h e m = true≢false (sym (All-contains (λ y. IsTrue (cell_before x y)) xs c h m) ∙ ap (cell_before x) (sym e) ∙ cell_before-irreflexive x)
one_place (x ∷ xs) r (suc p) zero c e f = absurd (after x xs c r.0 (some_same f) (member_at xs p c e))
  where
    some_same : Some x ≡ Some c → x ≡ c
    some_same e = cc

    after : (x : Cell) (xs : List Cell) (c : Cell) → All (λ y. IsTrue (cell_before x y)) xs → x ≡ c → Contains xs c → ⊥
    after x xs c h e m = true≢false (sym (All-contains (λ y. IsTrue (cell_before x y)) xs c h m) ∙ ap (cell_before x) (sym e) ∙ cell_before-irreflexive x)
one_place (x ∷ xs) r (suc p) (suc q) c e f = ap suc (one_place xs r.1 p q c e f)

-- the cell at a marked place is reached, and so is one that has no place
pub reached_at : (hole : List Cell) (reached : List Bool) (d : Cell) (p : ℕ) → IsRising cell_before hole → slice_get hole p ≡ Some d → is_marked reached p ≡ true → IsReached hole reached d
reached_at hole reached d p r e t q f = subst (λ k. is_marked reached k ≡ true) (one_place hole r p q d e f) t

pub reached_absent : (hole : List Cell) (reached : List Bool) (d : Cell) → has hole d ≡ false → IsReached hole reached d
reached_absent hole reached d f q e = absurd (has-false hole d f (member_at hole q d e))

-- ---- one step

-- a place that is marked anew is one less
unmarked_less : (reached : List Bool) (p : ℕ) → p < length reached → is_marked reached p ≡ false → suc (count_by not (set reached p true)) ≡ count_by not reached
unmarked_less reached p l f =
    let one : Bool → ℕ = λ b. cond (not b) 1 0 in
    let moved = sum_by-set one reached p true false l in
    let was : one (get_or reached p false) ≡ 1 = ap one f in
    omega (arith, moved, was)

pub went_one : (hole : List Cell) (reached : List Bool) (todo : List ℕ) (p : ℕ) → length reached ≡ length hole → p < length hole → is_marked reached p ≡ false → WentOn hole reached todo (set reached p true) (todo ++ p ∷ [])
went_one hole reached todo p size less f =
    let room : p < length reached = omega arith in
    record {
      grows = grows_set reached p room;
      keeps = λ q m. Contains-append_left todo (p ∷ []) q m;
      fresh = λ q t. elim (cases_Bool (nat_eq q p)) [
        | inl e ↦ inr (subst (Contains (todo ++ p ∷ [])) (sym (eqb-true q p e)) (Contains-push todo p))
        | inr n ↦ inl (sym (marked-set_other reached p q (λ e. true≢false (sym (eq-eqb q p e) ∙ n))) ∙ t)
      ];
      below = λ h. All-push (λ q. q < length hole) todo p h less;
      work = let e = unmarked_less reached p room f in let l = length_push todo p in omega arith;
      size = length-set reached p true;
    }

pub went_further : (hole : List Cell) (a : List Bool) (s : List ℕ) (b : List Bool) (t : List ℕ) (c : List Bool) (u : List ℕ) → WentOn hole a s b t → WentOn hole b t c u → WentOn hole a s c u
went_further hole a s b t c u w v = record {
  grows = λ n h. v.grows n (w.grows n h);
  keeps = λ p m. v.keeps p (w.keeps p m);
  fresh = λ p h. elim (v.fresh p h) [ inl k ↦ elim (w.fresh p k) [ inl j ↦ inl j | inr m ↦ inr (v.keeps p m) ] | inr m ↦ inr m ];
  below = λ h. v.below (w.below h);
  work = let x = w.work in let y = v.work in omega arith;
  size = v.size ∙ w.size;
}

pub reached_grows : (hole : List Cell) (old new : List Bool) → Grows old new → (ds : List Cell) → All (IsReached hole old) ds → All (IsReached hole new) ds
reached_grows hole old new grows ds h = All-weaker (IsReached hole old) (IsReached hole new) (λ d r q e. grows q (r q e)) ds h

-- ---- the spread

module _ (g : Geometry) (law : IsGrid g) (hole : List Cell) where
  -- the turn of the last place whose neighbours are still to be looked at
  pub spread_on : (reached : List Bool) (todo rest : List ℕ) (at : ℕ) (new : List Bool) (later : List ℕ) → IsSpread g hole reached todo → todo ≡ rest ++ at ∷ [] → All (IsCell g) hole → WentOn hole reached rest new later → All (IsReached hole new) (g.adjacent (get_or hole at zero_cell)) → IsSpread g hole new later
  spread_on reached todo rest at new later s e cells w around = record {
    size = w.size ∙ s.size;
    first = w.grows 0 s.first;
    below = w.below (All-front rest at all_below);
    pending = λ p t. elim (w.fresh p t) [ inl old ↦ elim (s.pending p old) [ inl m ↦ popped p (subst (λ xs. Contains xs p) e m) | inr h ↦ inr (λ x d i a q f. w.grows q (h x d i a q f)) ] | inr m ↦ inl m ];
  }
    where
      c : Cell
      c = get_or hole at zero_cell

      all_below : All (λ p. p < length hole) (rest ++ at ∷ [])
      all_below = subst (All (λ p. p < length hole)) e s.below

      less : at < length hole
      less = All-contains (λ p. p < length hole) (rest ++ at ∷ []) at all_below (Contains-push rest at)

      All-front : (xs : List ℕ) (x : ℕ) → All (λ p. p < length hole) (xs ++ x ∷ []) → All (λ p. p < length hole) xs
      All-front xs x h = All-from_members (λ p. p < length hole) xs (λ p m. All-contains (λ p. p < length hole) (xs ++ x ∷ []) p h (Contains-append_left xs (x ∷ []) p m))

      popped : (p : ℕ) → Contains (rest ++ at ∷ []) p → Contains later p ⊎ IsSurrounded g hole new p
      popped p m =
          elim (Contains-push_cases rest at p m) [
            | inl n ↦ inl (w.keeps p n)
            | inr same ↦ inr (λ x d i a.
                let is : c ≡ x = ap (λ o. unwrap_or o c) (sym (at_place hole at zero_cell less) ∙ ap (slice_get hole) same ∙ i) in
                All-contains (IsReached hole new) (g.adjacent c) d around (has-true (g.adjacent c) d ((adjacent_exact g law c d (All-get_or (IsCell g) hole at zero_cell less cells)).1 (subst (λ z. Adjacent g z d) (sym is) a))))
          ]

-- ---- the reached cells

abbrev Place : Type 0
Place = ℕ × Cell

-- one more cell
pub marked_more : (reached : List Bool) (hole : List Cell) (i : ℕ) (c : Cell) → i < length hole → get_or hole i c ≡ c → map (λ (x : Place). x.1) (filter (λ (x : Place). is_marked reached x.0) (take (i + 1) (enumerate_from 0 hole))) ≡ map (λ (x : Place). x.1) (filter (λ (x : Place). is_marked reached x.0) (take i (enumerate_from 0 hole))) ++ cond (is_marked reached i) (c ∷ []) []
marked_more reached hole i c less is =
    let p : Place → Bool = λ x. is_marked reached x.0 in
    let f : Place → Cell = λ x. x.1 in
    let xs : List Place = enumerate_from 0 hole in
    let long : length xs ≡ length hole = length-enumerate_from 0 hole in
    let inside : i < length xs = omega arith in
    let number : 0 + i ≡ i = omega arith in
    let item : get_or xs i (0, c) ≡ (i, c) = get_or-enumerate_from 0 hole i (0, c) less ∙ (λ j. (number j, is j)) in
    ap (λ ys. map f (filter p ys)) (take_more xs i (0, c) inside ∙ ap (λ x. take i xs ++ x ∷ []) item) ∙ ap (map f) (filter-append p (take i xs) ((i, c) ∷ [])) ∙ map-append f (filter p (take i xs)) (filter p ((i, c) ∷ [])) ∙ ap (λ ys. map f (filter p (take i xs)) ++ ys) (one (is_marked reached i))
  where
    one : (b : Bool) → map (λ (x : Place). x.1) (cond b ((i, c) ∷ []) []) ≡ cond b (c ∷ []) []
    one true = refl
    one false = refl

pub marked_end : (reached : List Bool) (hole : List Cell) (i : ℕ) → length hole ≤ i → map (λ (x : Place). x.1) (filter (λ (x : Place). is_marked reached x.0) (take i (enumerate_from 0 hole))) ≡ marked_cells reached hole
marked_end reached hole i past = let long : length (enumerate_from 0 hole) ≡ length hole = length-enumerate_from 0 hole in ap (λ ys. map (λ (x : Place). x.1) (filter (λ (x : Place). is_marked reached x.0) ys)) (take_all i (enumerate_from 0 hole) (omega arith))

place_from : (hole : List Cell) (n k : ℕ) (c : Cell) → slice_get hole k ≡ Some c → Contains (enumerate_from n hole) (n + k, c)
place_from hole n k c e =
    let less : k < length hole = get_below hole k c e in
    let long : length (enumerate_from n hole) ≡ length hole = length-enumerate_from n hole in
    let is : get_or hole k c ≡ c = get_or_from_slice_get hole k c c e in
    subst (Contains (enumerate_from n hole)) (get_or-enumerate_from n hole k (0, c) less ∙ (λ i. (n + k, is i))) (Contains-get_or (enumerate_from n hole) k (0, c) (omega (arith, less, long)))

places_rising : (xs : List Cell) (n : ℕ) → IsRising cell_before xs → IsRising (λ (x y : Place). cell_before x.1 y.1) (enumerate_from n xs)
places_rising [] n r = tt
places_rising (x ∷ xs) n r = (All-from_members (λ (y : Place). IsTrue (cell_before x y.1)) (enumerate_from (n + 1) xs) (λ y m. All-contains (λ z. IsTrue (cell_before x z)) xs y.1 r.0 (entry_variable xs (n + 1) y m)), places_rising xs (n + 1) r.1)

cells_rising : (xs : List Place) → IsRising (λ (x y : Place). cell_before x.1 y.1) xs → IsRising cell_before (map (λ (x : Place). x.1) xs)
cells_rising [] r = tt
cells_rising (x ∷ xs) r =
    (All-from_members (λ c. IsTrue (cell_before x.1 c)) (map (λ (x : Place). x.1) xs) (λ c m. let y : (y : Place) × Contains xs y × (y.1 ≡ c) = map_member (λ (x : Place). x.1) xs c m in subst (λ z. IsTrue (cell_before x.1 z)) y.2 (All-contains (λ (y : Place). IsTrue (cell_before x.1 y.1)) xs y.0 r.0 y.1)), cells_rising xs r.1)

-- a reached cell has a marked place, and back
place_of_member : (reached : List Bool) (hole : List Cell) (c : Cell) → Contains (marked_cells reached hole) c → (p : ℕ) × (slice_get hole p ≡ Some c) × (is_marked reached p ≡ true)
place_of_member reached hole c m =
    let xs : List Place = enumerate_from 0 hole in
    let test : Place → Bool = λ x. is_marked reached x.0 in
    let r : (x : Place) × Contains (filter test xs) x × (x.1 ≡ c) = map_member (λ (x : Place). x.1) (filter test xs) c m in
    let f = filter_member test xs r.0 r.1 in
    let same : r.0.0 - 0 ≡ r.0.0 = omega arith in
    (r.0.0, subst (λ k. slice_get hole k ≡ Some c) same ((entry_at hole 0 r.0 f.0).1 ∙ ap (λ z. Some z) r.2), f.1)

member_of_place : (reached : List Bool) (hole : List Cell) (c : Cell) (p : ℕ) → slice_get hole p ≡ Some c → is_marked reached p ≡ true → Contains (marked_cells reached hole) c
member_of_place reached hole c p e t =
    let xs : List Place = enumerate_from 0 hole in
    let test : Place → Bool = λ x. is_marked reached x.0 in
    let same : 0 + p ≡ p = omega arith in
    let m : Contains xs (p, c) = subst (λ k. Contains xs (k, c)) same (place_from hole 0 p c e) in
    member_map (λ (x : Place). x.1) (filter test xs) (p, c) (member_filter test xs (p, c) m t)

some_member : (xs : List Cell) (c : Cell) → Contains xs c → 0 < length xs
some_member xs c m = let l = m.1 in omega arith

pub part_closed : (g : Geometry) (hole : List Cell) (reached : List Bool) → IsRising cell_before hole → 0 < length hole → is_marked reached 0 ≡ true → IsClosed g hole reached → IsClosedPart g hole (marked_cells reached hole)
part_closed g hole reached rising some first closed = record {
  some = let c = get_at hole 0 some in some_member (marked_cells reached hole) c.0 (member_of_place reached hole c.0 0 c.1 first);
  rising = cells_rising (filter (λ (x : Place). is_marked reached x.0) (enumerate_from 0 hole)) (rising_filter (λ (x y : Place). cell_before x.1 y.1) (λ (x : Place). is_marked reached x.0) (enumerate_from 0 hole) (places_rising hole 0 rising));
  within = λ c m. let p = place_of_member reached hole c m in member_at hole p.0 c p.1;
  closed = λ c d m n a. let p = place_of_member reached hole c m in let q = place_of hole d n in member_of_place reached hole d q.0 q.1 (closed p.0 p.2 c d p.1 a q.0 q.1);
}
  where
    place_of : (xs : List Cell) (d : Cell) → Contains xs d → (q : ℕ) × (slice_get xs q ≡ Some d)
    place_of xs d (k, l, e) = let r = get_at xs k l in (k, r.1 ∙ ap (λ z. Some z) (sym (get_or_from_slice_get xs k r.0 d r.1) ∙ e))
