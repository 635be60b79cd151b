-- A list without a fault makes a shape.
use Rattle.std.proofs.Common.{◌≡◌, ℕ, zero, suc, ◌+◌, ◌<◌, ◌≤◌, true, List, [], ◌∷◌, length, take, IsPermutation, IsSorted, pos, sym, ap, ◌∙◌, subst, arith, inl, inr}
use Rattle.std.specs.List.{IsDistinct}
use Rattle.std.specs.Cmp.{IsEquivalence}
use Rattle.std.proofs.Math.Seq.{take-length}
use Rattle.std.proofs.lemmas.Int.{ints}
use Rattle.std.proofs.lemmas.List.{take_more}
use Rattle.std.proofs.lemmas.List.Sorted.{list_any-IsPermutation, length_permutation}
use Rattle.std.proofs.lemmas.Map.Keys.{IsDistinct-push, IsDistinct-IsPermutation}
use Rattle.std.proofs.lemmas.Bool.{true≢false, or_cases, not-true, not-false}
use Rattle.heesch_grid.specs.declared.Cell.{Cell}
use Rattle.heesch_grid.specs.Geometry.{Geometry, IsGrid}
use Rattle.heesch_grid.specs.Cells.{cell, same_cell, cell_cmp, has}
use Rattle.heesch_grid.specs.Vectors.{IsWithin}
use Rattle.heesch_grid.specs.Pairs.{same_cell-true, same_cell-refl}
use Rattle.heesch_shape.specs.Walks.{Walk, IsShape, HaveSame}
use Rattle.heesch_shape.specs.Walks.Walk.{here, step}
use Rattle.heesch_shape.specs.Faults.{IsFirstApart}
use Rattle.heesch_shape.specs.Places.{AllHold, IsFirstFailure, is_cell_at, is_new_at, is_out_at, nth}
use Rattle.heesch_shape.specs.Reach.{IsCutOff}
use Rattle.heesch_shape.proofs.Loops.{has_at}
use Rattle.heesch_shape.proofs.Parting.{same_cell_flips}
use Rattle.heesch_shape.proofs.Sets.{rises_from_sorted}
use Rattle.heesch_shape.proofs.Words.{polyform_of, joined_walk, walk_joined}

abbrev pub zero_cell : Cell
zero_cell = cell (pos 0) (pos 0)

pub same_cell_laws : IsEquivalence same_cell
same_cell_laws = record { refl = same_cell-refl; symm = same_cell_flips; congr = λ x y z h. ap (λ w. same_cell w z) (same_cell-true x y h) }

none_distinct : IsDistinct same_cell []
unfolding IsDistinct
none_distinct = tt

pub distinct_from_new : (xs : List Cell) → AllHold (is_new_at xs) (length xs) → IsDistinct same_cell xs
distinct_from_new xs new = subst (IsDistinct same_cell) (take-length xs) (front (length xs) (omega arith))
  where
    front : (n : ℕ) → n ≤ length xs → IsDistinct same_cell (take n xs)
    front zero l = none_distinct
    front (suc n) l =
        let next : n + 1 ≡ suc n = omega arith in
        subst (λ m. IsDistinct same_cell (take m xs)) next (subst (IsDistinct same_cell) (sym (take_more xs n zero_cell l)) (IsDistinct-push {eq = same_cell} same_cell_laws (take n xs) (nth xs n) (front n (omega arith)) (not-true (has (take n xs) (nth xs n)) (new.all n l))))

-- a member has a place
place_of : (xs : List Cell) (c : Cell) → has xs c ≡ true → (k : ℕ) × (k < length xs) × (nth xs k ≡ c)
place_of [] c h = absurd (true≢false (sym h))
place_of (x ∷ xs) c h =
    elim (or_cases (same_cell c x) (has xs c) h) [
      | inl e ↦ (0, omega arith, sym (same_cell-true c x e))
      | inr o ↦ let p = place_of xs c o in (suc p.0, (let l = p.1 in omega arith), p.2)
    ]

pub cells_from_places : (g : Geometry) (xs : List Cell) → AllHold (is_cell_at g xs) (length xs) → (c : Cell) → has xs c ≡ true → g.is_cell c ≡ true
cells_from_places g xs all c h = let p = place_of xs c h in ap g.is_cell (sym p.2) ∙ all.all p.0 p.1

pub first_apart : (g : Geometry) (xs outside : List Cell) (at : ℕ) → IsCutOff g xs outside → IsFirstFailure (is_out_at outside xs) (length xs) at → IsFirstApart g xs at
first_apart g xs outside at cut f =
    record {
      below = f.below;
      apart = λ j. cut.apart (nth xs at) zero_cell (not-false (has outside (nth xs at)) f.fails) (joined_walk g xs (nth xs 0) (nth xs at) (has_at xs 0 zero_cell (let b = f.below in omega arith)) j);
      before = λ k l. walk_joined g xs (nth xs 0) (nth xs k) (cut.joined (nth xs k) zero_cell (has_at xs k zero_cell (let b = f.below in omega arith)) (not-true (has outside (nth xs k)) (f.before k l)));
    }

-- ---- paths
end_in : (g : Geometry) (xs : List Cell) (c d : Cell) → Walk g xs c d → has xs d ≡ true
end_in g xs c d (here c' h) = h
end_in g xs c e (step c' d e' j h a) = h

joined_trans : (g : Geometry) (xs : List Cell) (c d e : Cell) → Walk g xs c d → Walk g xs d e → Walk g xs c e
joined_trans g xs c d e j (here d' h) = j
joined_trans g xs c d e j (step d' x e' k h a) = step c x e' (joined_trans g xs c d' x j k) h a

joined_back : (g : Geometry) → IsGrid g → (xs : List Cell) (c d : Cell) → Walk g xs c d → Walk g xs d c
joined_back g laws xs c d (here c' h) = here c' h
joined_back g laws xs c e (step c' d e' j h a) =
    joined_trans g xs e' d c' (step e' e' d (here e' h) (end_in g xs c' d j) (laws.adjacent_back d e' a)) (joined_back g laws xs c' d j)

joined_same : (g : Geometry) (xs ys : List Cell) → ((c : Cell) → has xs c ≡ true → has ys c ≡ true) → (c d : Cell) → Walk g xs c d → Walk g ys c d
joined_same g xs ys keep c d (here c' h) = here c' (keep c' h)
joined_same g xs ys keep c e (step c' d e' j h a) = step c' d e' (joined_same g xs ys keep c' d j) (keep e' h) a

pub made_cells : (xs ys : List Cell) → IsPermutation xs ys → HaveSame ys xs
made_cells xs ys p = record { same = λ c. sym (list_any-IsPermutation (same_cell c) xs ys p) }

pub made_shape : (g : Geometry) → IsGrid g → (xs ys outside : List Cell) → 1 ≤ length xs → length xs ≤ 32 → AllHold (is_cell_at g xs) (length xs) → AllHold (is_new_at xs) (length xs) → IsCutOff g xs outside → AllHold (is_out_at outside xs) (length xs) → ((c : Cell) → has xs c ≡ true → IsWithin 100000 c) → IsPermutation xs ys → IsSorted cell_cmp ys → IsShape g ys
made_shape g laws xs ys outside some few cells new cut out within p sorted =
    let same = (made_cells xs ys p).same in
    let long = length_permutation xs ys p in
    let from : (c : Cell) → has xs c ≡ true → Walk g xs (nth xs 0) c = λ c h. let k = place_of xs c h in cut.joined c zero_cell h (ap (has outside) (sym k.2) ∙ not-true (has outside (nth xs k.0)) (out.all k.0 k.1)) in
    let order = rises_from_sorted ys (IsDistinct-IsPermutation same_cell same_cell_flips xs ys p (distinct_from_new xs new)) sorted in
    record {
      polyform = polyform_of g ys order (record {
        cells = λ c h. cells_from_places g xs cells c (sym (same c) ∙ h);
        some = omega arith;
        joined = λ c d h k. joined_same g xs ys (λ e i. same e ∙ i) c d (joined_trans g xs c (nth xs 0) d (joined_back g laws xs (nth xs 0) c (from c (sym (same c) ∙ h))) (from d (sym (same d) ∙ k)));
      });
      few = omega arith;
      within = λ c h. wider c (within c (sym (same c) ∙ h));
    }
  where
    wider : (c : Cell) → IsWithin 100000 c → IsWithin 1000000 c
    wider c w = record { a_low = omega (arith, ints, w.a_low); a_high = omega (arith, ints, w.a_high); b_low = omega (arith, ints, w.b_low); b_high = omega (arith, ints, w.b_high) }
