-- Tests of the definitions on small shapes of the square grid: polyforms, a hole, a cover.
use Rattle.std.proofs.Common.{◌≡◌, refl, sym, ap, subst, ◌∙◌, ℕ, zero, suc, List, [], ◌∷◌, true, inl, inr, arith, All, Contains, true≢false}
use Rattle.std.specs.Prelude.{ℤ, pos, IsTrue, Some, None, is_some, unwrap_or, slice_get}
use Rattle.std.specs.List.{list_all}
use Rattle.std.proofs.lemmas.Int.{ints}
use Rattle.std.proofs.lemmas.List.Elements.{All-cons, All-nil, All-contains, All-contains_itself}
use Rattle.heesch_grid.specs.declared.Cell.{Cell}
use Rattle.heesch_grid.specs.declared.isometries.Iso.{Iso}
use Rattle.heesch_grid.specs.Lattice.{translated}
use Rattle.heesch_grid.specs.Listing.{IsRising}
use Rattle.heesch_grid.specs.Cells.{cell, cell_before, has, IsCellListOf, origin}
use Rattle.heesch_grid.specs.Geometry.{Geometry, are_adjacent, Adjacent, IsIsometry, image}
use Rattle.heesch_grid.specs.Polyform.{Joined, start, next, IsPolyform}
use Rattle.heesch_grid.specs.Hole.{IsHole}
use Rattle.heesch_grid.specs.Tiling.{HasCell, TilesByTranslation, no_move}
use Rattle.heesch_grid.specs.Examples.{square, right, up, single, corner, diagonal, ring, middle, unit_triple, AreAsExpected}
use Rattle.heesch_grid.specs.GridTests.{square_laws}
use Rattle.heesch_grid.specs.Lists.{All-by_test, rising_by_test}
use Rattle.heesch_grid.specs.Pairs.{Cell-eta, has-true}
use Rattle.heesch_grid.proofs.ListFacts.{member_cases, member_here, member_there, no_member}
use Rattle.heesch_grid.proofs.CellFacts.{has-is}
use Rattle.heesch_grid.proofs.Growth.{Crossing, crossing, joined_trans}

pub subset_by_test : (xs ys : List Cell) → list_all (has ys) xs ≡ true → (c : Cell) → Contains xs c → Contains ys c
subset_by_test xs ys t c m = has-true ys c (All-contains (λ c. IsTrue (has ys c)) xs c (All-by_test (has ys) xs t) m)

-- a set is connected where each cell is joined to one of them, both ways
through : (g : Geometry) (xs : List Cell) (m : Cell) → All (λ c. Joined g xs c m × Joined g xs m c) xs → (c d : Cell) → Contains xs c → Contains xs d → Joined g xs c d
through g xs m h c d hc hd = joined_trans g xs c m d (at c hc).0 (at d hd).1
  where
    at : (c : Cell) → Contains xs c → Joined g xs c m × Joined g xs m c
    at c (k, l, e) = subst (λ z. Joined g xs z m × Joined g xs m z) e (h k c l)

-- the L-tromino is a polyform
pub corner_polyform : IsPolyform square corner
corner_polyform = record {
  is_set = record { rising = rising_by_test cell_before corner refl; in_grid = All-by_test square.is_cell corner refl };
  some = omega arith;
  joined = through square corner origin
      (All-cons joins origin (right ∷ up ∷ []) (start, start)
      (All-cons joins right (up ∷ []) (next start refl (member_here origin (right ∷ up ∷ [])), next start refl (member_there origin (right ∷ up ∷ []) right (member_here right (up ∷ []))))
      (All-cons joins up [] (next start refl (member_here origin (right ∷ up ∷ [])), next start refl (member_there origin (right ∷ up ∷ []) up (member_there right (up ∷ []) up (member_here up []))))
      (All-nil joins))));
}
  where
    joins : Cell → Type 0
    joins c = Joined square corner c origin × Joined square corner origin c

-- two cells at a corner are none
diagonal_no_polyform : ¬ IsPolyform square diagonal
diagonal_no_polyform form =
    let far : Cell = cell (pos 1) (pos 1) in
    let path : Joined square diagonal origin far = form.joined origin far (member_here origin (far ∷ [])) (member_there origin (far ∷ []) far (member_here far [])) in
    let k : Crossing square diagonal (origin ∷ []) = crossing square diagonal (origin ∷ []) origin far path (member_here origin []) refl in
    ends k
  where
    ends : Crossing square diagonal (origin ∷ []) → ⊥
    ends k =
        elim (member_cases origin [] k.member k.inside) [
          | inr h ↦ no_member k.member h
          | inl e ↦ elim (member_cases origin (cell (pos 1) (pos 1) ∷ []) k.found k.in_set) [
            | inl f ↦ true≢false (sym (has-is (origin ∷ []) k.found (subst (λ z. Contains (origin ∷ []) z) f (member_here origin []))) ∙ k.outside)
            | inr m ↦ elim (member_cases (cell (pos 1) (pos 1)) [] k.found m) [
              | inl f ↦ true≢false (sym k.adjacent ∙ (λ i. are_adjacent square (sym e i) (sym f i)))
              | inr n ↦ no_member k.found n
            ]
          ]
        ]

-- the ring has its middle as a hole
ring_hole : IsHole square ring (middle ∷ [])
ring_hole = record {
  some = omega arith;
  in_grid = All-by_test square.is_cell (middle ∷ []) refl;
  outside = λ c h. elim (member_cases middle [] c h) [ inl e ↦ λ m. true≢false (sym (has-is ring middle (subst (λ z. Contains ring z) (sym e) m))) | inr n ↦ absurd (no_member c n) ];
  enclosed = λ c d h a. elim (member_cases middle [] c h) [
    | inl e ↦ inr (subset_by_test (square.adjacent middle) ring refl d ((square_laws.adjacent_listed middle refl).0.every d (subst (λ z. Adjacent square z d) (sym e) a)))
    | inr n ↦ absurd (no_member c n)
  ];
}

-- ---- the single square

-- a rising list is the cell list of itself
pub itself : (xs : List Cell) → IsRising cell_before xs → IsCellListOf xs xs
itself xs r = record { rising = r; only = All-contains_itself xs; every = λ c m. m }

pub only_place : (n : ℕ) (by : Iso) → slice_get (no_move ∷ []) n ≡ Some by → (n ≡ 0) × (no_move ≡ by)
only_place zero by e = (refl, Some-injective e)
  where
    Some-injective : {x y : Iso} → Some x ≡ Some y → x ≡ y
    Some-injective {x} e = ap (λ w. unwrap_or w x) e
only_place (suc n) by e = absurd (none_some e)
  where
    none_some : None ≡ Some by → ⊥
    none_some e = true≢false (sym (ap is_some e))

-- it tiles by translations, with the triple (1, 1, 0)
pub single_tiles : TilesByTranslation square single unit_triple
single_tiles = record {
  of_domain = record { is_triple = record { p_positive = omega arith; q_positive = omega arith; s_below = omega arith }; area = refl };
  cover = record {
    is_triple = record { p_positive = omega arith; q_positive = omega arith; s_below = omega arith };
    isometries = All-cons (IsIsometry square) no_move [] (omega arith) (All-nil (IsIsometry square));
    exactly_one = λ c h. record {
      value = (0, c.a, c.b);
      holds = record { by = no_move; is_place = refl; member = origin; in_tile = member_here origin []; is = at c };
      only = λ x k. one c x k;
    };
  };
}
  where
    at : (c : Cell) → c ≡ translated square unit_triple c.a c.b origin
    at c = Cell-eta c (translated square unit_triple c.a c.b origin) (omega (arith, ints)) (omega (arith, ints))

    same_at : (c : Cell) (i j : ℤ) → c ≡ translated square unit_triple i j origin → (i ≡ c.a) × (j ≡ c.b)
    same_at c i j e =
        let p : c.a ≡ (translated square unit_triple i j origin).a = ap (λ (z : Cell). z.a) e in
        let q : c.b ≡ (translated square unit_triple i j origin).b = ap (λ (z : Cell). z.b) e in
        (omega (arith, ints), omega (arith, ints))

    one : (c : Cell) (x : ℕ × ℤ × ℤ) → HasCell square single unit_triple (no_move ∷ []) c x → x ≡ (0, c.a, c.b)
    one c x k =
        let place : (x.0 ≡ 0) × (no_move ≡ k.by) = only_place x.0 k.by k.is_place in
        let member : origin ≡ k.member = elim (member_cases origin [] k.member (subst (λ by. Contains (image square by single) k.member) (sym place.1) k.in_tile)) [ inl e ↦ e | inr n ↦ absurd (no_member k.member n) ] in
        let ij : (x.1 ≡ c.a) × (x.2 ≡ c.b) = same_at c x.1 x.2 (k.is ∙ ap (translated square unit_triple x.1 x.2) (sym member)) in
        λ i. (place.0 i, ij.0 i, ij.1 i)

-- what is expected of the small shapes
pub as_expected : AreAsExpected
as_expected = record { corner_is_polyform = corner_polyform; diagonal_is_none = diagonal_no_polyform; ring_has_hole = ring_hole; single_tiles = single_tiles }
