-- The searches through triples and shifts find the first, or there is none.
use Rattle.std.proofs.Common.{◌≡◌, refl, sym, ap, subst, ◌∙◌, ℕ, suc, ◌+◌, ◌*◌, ◌/◌, ◌%◌, ◌<◌, ◌≤◌, List, [], ◌∷◌, true, ◌&&◌, ◌==◌, inl, inr, arith, eqb-true, ltb-true}
use Rattle.std.specs.Prelude.{ℤ, pos, negsuc, ◌≤ℤ◌, ◌<ℤ◌, IsTrue, nat_lt, int_lt, length, ◌⊎◌}
use Rattle.std.specs.Ordering.{int_eq}
use Rattle.std.proofs.lemmas.Int.{ints}
use Rattle.std.proofs.lemmas.Bool.{and_parts, and_from, or_cases}
use Rattle.std.proofs.lemmas.Nat.{div-mul-add}
use Rattle.std.proofs.lemmas.List.Elements.{All-contains}
use Rattle.std.proofs.Math.Nat.{mul-le-mul_left, mul-le-mul_right, mul-div_cancel_left}
use Rattle.heesch_grid.specs.declared.Cell.{Cell}
use Rattle.heesch_grid.specs.Cells.{cell, cell_before}
use Rattle.heesch_grid.specs.Geometry.{Geometry, IsGrid}
use Rattle.heesch_grid.specs.Lattice.{Triple, IsTripleOfDomain, triple_before}
use Rattle.heesch_grid.specs.Pairs.{Cell-eta, or-left, or-right}
use Rattle.heesch_grid.proofs.ListFacts.{member_here, member_cases, no_member}
use Rattle.heesch_lattice.specs.Listed.{IsTripleOfArea, AreTriples}
use Rattle.heesch_tiling.specs.Counting.{spot}
use Rattle.heesch_tiling.specs.Search.{IsShift, IsTurnedShift, HasShift, CoversTurned, CoversAlone, IsFirstShift, IsSearch, NoTilingByTranslation, NoTilingByHalfTurn, IsFirstByTranslation, IsFirstByHalfTurn}
use Rattle.heesch_grid.specs.Tiling.{TilesByHalfTurn}
use Rattle.heesch_tiling.proofs.Spots.{spots_in_order, below_quotient}

-- ---- shifts
natural : (z : ℤ) (p : ℕ) → pos 0 ≤ℤ z → z <ℤ pos p → (x : ℕ) × (z ≡ pos x) × (x < p)
natural (pos x) p from below = (x, refl, omega (arith, ints))
natural (negsuc x) p from below = absurd (omega (arith, ints))

shift_spot : (t : Triple) → 1 ≤ t.p → (v : Cell) → IsShift t v → (j : ℕ) × (j < t.p * t.q) × (v ≡ spot t.p j)
shift_spot t some v s =
    let x = natural v.a t.p s.a_from s.a_below in
    let y = natural v.b t.q s.b_from s.b_below in
    let w : ℕ = t.p in
    let j : ℕ = y.0 * w + x.0 in
    let column : x.0 < t.p = x.2 in
    let row : y.0 < t.q = y.2 in
    let quotient : j / w ≡ y.0 = div-mul-add y.0 t.p x.0 column in
    let split : w * (j / w) + j % w ≡ j = omega arith in
    let product : w * (j / w) ≡ y.0 * w = ap (λ n. w * n) quotient ∙ turn_product w y.0 in
    let rest : j % w ≡ x.0 = omega (arith, split, product) in
    let k : w * suc y.0 ≤ w * t.q = mul-le-mul_left w row in
    let same : w * y.0 ≡ y.0 * w = turn_product w y.0 in
    (j, omega (arith, k, same, column), Cell-eta v (spot t.p j) (x.1 ∙ ap pos (sym rest)) (y.1 ∙ ap pos (sym quotient)))
  where
    turn_product : (m n : ℕ) → m * n ≡ n * m
    turn_product m n = omega arith

pub spot_shift : (t : Triple) (k : ℕ) → 1 ≤ t.p → k < t.p * t.q → IsShift t (spot t.p k)
spot_shift t k some less =
    let column : k % t.p < t.p = omega arith in
    let row : k / t.p < t.q = below_quotient k t.p t.q some less in
    record { a_from = omega (arith, ints); a_below = omega (arith, ints, column); b_from = omega (arith, ints); b_below = omega (arith, ints, row) }

module _ (g : Geometry) (xs : List Cell) (t : Triple) (some : 1 ≤ t.p) where
  pub first_shift : (k : ℕ) (v : Cell) → v ≡ spot t.p k → k < t.p * t.q → ((j : ℕ) → j < k → ¬ CoversTurned g xs t (spot t.p j)) → CoversTurned g xs t v → IsFirstShift g xs t v
  first_shift k v e less before covers = record {
    holds = record { shift = subst (IsShift t) (sym e) (spot_shift t k some less); covers = covers };
    first = λ w h b.
        let j = shift_spot t some w h.shift in
        let order : cell_before (spot t.p j.0) (spot t.p k) ≡ true = sym (λ i. cell_before (j.2 i) (e i)) ∙ b in
        before j.0 (spots_in_order t.p j.0 k some order) (subst (CoversTurned g xs t) j.2 h.covers);
  }

  pub no_shift : (k : ℕ) → t.p * t.q ≤ k → ((j : ℕ) → j < k → ¬ CoversTurned g xs t (spot t.p j)) → (v : Cell) → ¬ IsTurnedShift g xs t v
  no_shift k all before v h = let j = shift_spot t some v h.shift in let l = j.1 in before j.0 (omega (arith, l, all)) (subst (CoversTurned g xs t) j.2 h.covers)

-- ---- triples
order_parts : (t u : Triple) → triple_before t u ≡ true → (t.p < u.p) ⊎ ((t.p ≡ u.p) × (t.s < u.s))
order_parts t u e =
    elim (or_cases (nat_lt t.p u.p) (t.p == u.p && nat_lt t.s u.s) e) [
      | inl h ↦ inl (ltb-true t.p u.p h)
      | inr h ↦ let both = and_parts (t.p == u.p) (nat_lt t.s u.s) h in inr (eqb-true t.p u.p both.0, ltb-true t.s u.s both.1)
    ]

pub one_way : (t u : Triple) → triple_before t u ≡ true → triple_before u t ≡ true → ⊥
one_way t u a b =
    elim (order_parts t u a) [
      | inl x ↦ elim (order_parts u t b) [ inl y ↦ omega (arith, x, y) | inr y ↦ let e = y.0 in omega (arith, x, e) ]
      | inr x ↦ let e = x.0 in let l = x.1 in elim (order_parts u t b) [ inl y ↦ omega (arith, e, y) | inr y ↦ let m = y.1 in omega (arith, l, m) ]
    ]

module _ (area : ℕ) (P : Triple → Type 0) where
  pub all_left : (ts : List Triple) → AreTriples area ts → IsSearch area P ts
  all_left ts a = record { rising = a.rising; only = a.only; every = λ t h p. a.every t h }

  pub one_less : (t : Triple) (ts : List Triple) → (¬ P t) → IsSearch area P (t ∷ ts) → IsSearch area P ts
  one_less t ts fails s = record {
    rising = s.rising.1;
    only = λ k d l. s.only (suc k) d (omega arith);
    every = λ u h p. elim (member_cases t ts u (s.every u h p)) [ inl e ↦ absurd (fails (subst P (sym e) p)) | inr m ↦ m ];
  }

  pub first_left : (t : Triple) (ts : List Triple) → IsSearch area P (t ∷ ts) → (u : Triple) → IsTripleOfArea area u → P u → triple_before u t ≡ true → ⊥
  first_left t ts s u h p b =
      elim (member_cases t ts u (s.every u h p)) [
        | inl e ↦ one_way t t (subst (λ z. triple_before z t ≡ true) (sym e) b) (subst (λ z. triple_before z t ≡ true) (sym e) b)
        | inr m ↦ one_way t u (All-contains (λ z. IsTrue (triple_before t z)) ts u s.rising.0 m) b
      ]

  pub of_area : (t : Triple) (ts : List Triple) → IsSearch area P (t ∷ ts) → IsTripleOfArea area t
  of_area t ts s = All-contains (IsTripleOfArea area) (t ∷ ts) t s.only (member_here t ts)

  pub none_left : IsSearch area P [] → (t : Triple) → IsTripleOfArea area t → ¬ P t
  none_left s t h p = no_member t (s.every t h p)

-- neither side of a triple is above its area
pub sides_small : (area : ℕ) (t : Triple) → IsTripleOfArea area t → (t.p ≤ area) × (t.q ≤ area)
sides_small area t h =
    let e = h.product in
    let p : t.p * 1 ≤ t.p * t.q = mul-le-mul_left t.p h.is_triple.q_positive in
    let q : 1 * t.q ≤ t.p * t.q = mul-le-mul_right t.q h.is_triple.p_positive in
    (omega (arith, e, p), omega (arith, e, q))

-- ---- areas
pub exact_quotient : (p x y : ℕ) → 1 ≤ p → p * x ≡ p * y → x ≡ y
exact_quotient p x y some e = sym (mul-div_cancel_left x some) ∙ ap (λ n. n / p) e ∙ mul-div_cancel_left y some

module _ (g : Geometry) (law : IsGrid g) (xs : List Cell) (m area : ℕ) (is : g.per * area ≡ length xs * m) where
  to_area : (t : Triple) → IsTripleOfDomain g (length xs) m t → IsTripleOfArea area t
  to_area t d = record { is_triple = d.is_triple; product = exact_quotient g.per (t.p * t.q) area law.per_range.0 (d.area ∙ sym is) }

  to_domain : (t : Triple) → IsTripleOfArea area t → IsTripleOfDomain g (length xs) m t
  to_domain t a = record { is_triple = a.is_triple; area = ap (λ n. g.per * n) a.product ∙ is }

module _ (g : Geometry) (law : IsGrid g) (xs : List Cell) (area : ℕ) (is : g.per * area ≡ length xs * 1) where
  pub by_translation : (t : Triple) (ts : List Triple) → IsSearch area (CoversAlone g xs) (t ∷ ts) → CoversAlone g xs t → IsFirstByTranslation g xs t
  by_translation t ts s covers = record {
    holds = record { of_domain = to_domain g law xs 1 area is t (of_area area (CoversAlone g xs) t ts s); cover = covers };
    first = λ u h b. first_left area (CoversAlone g xs) t ts s u (to_area g law xs 1 area is u h.of_domain) h.cover b;
  }

  pub never_by_translation : IsSearch area (CoversAlone g xs) [] → NoTilingByTranslation g xs
  never_by_translation s u h = none_left area (CoversAlone g xs) s u (to_area g law xs 1 area is u h.of_domain) h.cover

module _ (g : Geometry) (law : IsGrid g) (xs : List Cell) (area : ℕ) (is : g.per * area ≡ length xs * 2) where
  turned : (y : Triple × ℤ × ℤ) → TilesByHalfTurn g xs y → IsTurnedShift g xs y.0 (cell y.1 y.2)
  turned y h = record { shift = record { a_from = h.da_from; a_below = h.da_below; b_from = h.db_from; b_below = h.db_below }; covers = h.cover }

  lower : (x y : ℤ) → x <ℤ y → int_lt x y ≡ true
  lower x y l = grind (arith, ints)

  same : (x y : ℤ) → x ≡ y → int_eq x y ≡ true
  same x y e = grind (arith, ints)

  pub by_half_turn : (t : Triple) (ts : List Triple) (v : Cell) → IsSearch area (HasShift g xs) (t ∷ ts) → IsFirstShift g xs t v → IsFirstByHalfTurn g xs t v.a v.b
  by_half_turn t ts v s f =
      let found = f.holds in
      record {
        holds = record { of_domain = to_domain g law xs 2 area is t (of_area area (HasShift g xs) t ts s); da_from = found.shift.a_from; da_below = found.shift.a_below; db_from = found.shift.b_from; db_below = found.shift.b_below; cover = found.covers };
        first = λ y h b.
            let k = turned y h in
            elim b [
              | inl l ↦ first_left area (HasShift g xs) t ts s y.0 (to_area g law xs 2 area is y.0 h.of_domain) (cell y.1 y.2, k) l
              | inr r ↦
                  let at_t : IsTurnedShift g xs t (cell y.1 y.2) = subst (λ (u : Triple). IsTurnedShift g xs u (cell y.1 y.2)) r.0 k in
                  f.first (cell y.1 y.2) at_t (elim r.1 [
                    | inl l ↦ or-left (int_lt y.2 v.b) (int_eq y.2 v.b && int_lt y.1 v.a) (lower y.2 v.b l)
                    | inr q ↦ or-right (int_lt y.2 v.b) (int_eq y.2 v.b && int_lt y.1 v.a) (and_from (int_eq y.2 v.b) (int_lt y.1 v.a) (same y.2 v.b q.0) (lower y.1 v.a q.1))
                  ])
            ];
      }

  pub never_by_half_turn : IsSearch area (HasShift g xs) [] → NoTilingByHalfTurn g xs
  never_by_half_turn s y h = none_left area (HasShift g xs) s y.0 (to_area g law xs 2 area is y.0 h.of_domain) (cell y.1 y.2, turned y h)
