-- The pairs of a window by their numbers: reduced cells stand there, and their order is that of the numbers.
use Rattle.std.proofs.Common.{◌≡◌, refl, sym, ap, subst, ◌∙◌, ℕ, suc, ◌+◌, ◌*◌, ◌/◌, ◌%◌, ◌<◌, ◌≤◌, List, true, false, ◌&&◌, ◌||◌, inl, inr, arith, true≢false}
use Rattle.std.specs.Prelude.{ℤ, pos, negsuc, ◌≤ℤ◌, ◌<ℤ◌, int_lt, nat_lt}
use Rattle.std.specs.Ordering.{int_eq}
use Rattle.std.proofs.lemmas.Int.{ints}
use Rattle.std.proofs.lemmas.Bool.{and_parts, or_cases, cases_lt}
use Rattle.std.proofs.lemmas.Nat.{div-mul-add}
use Rattle.std.proofs.Math.Nat.{mul-le-mul_left, mul-le-mul_right}
use Rattle.heesch_grid.specs.declared.Cell.{Cell}
use Rattle.heesch_grid.specs.Cells.{cell_before}
use Rattle.heesch_grid.specs.Geometry.{Geometry, IsCell, IsGrid}
use Rattle.heesch_grid.specs.Polyform.{floor_div}
use Rattle.heesch_grid.specs.Pairs.{Cell-eta}
use Rattle.heesch_grid.specs.Lattice.{Triple, IsTriple, IsReduced}
use Rattle.heesch_lattice.proofs.Division.{unit_between}
use Rattle.heesch_tiling.specs.Counting.{times_in, is_amiss, spot, window_size, in_window, AreCounts, is_amiss_at, IsFirstNumber, IsFirstAmiss}

pub below_quotient : (x w h : ℕ) → 1 ≤ w → x < w * h → x / w < h
below_quotient x w h some less =
    let split : w * (x / w) + x % w ≡ x = omega arith in
    elim (cases_lt (x / w) h) [ inl k ↦ k | inr k ↦ let m : w * h ≤ w * (x / w) = mul-le-mul_left w k in absurd (omega (arith, split, m)) ]

below_product : (x u p : ℕ) → 1 ≤ u → x / u < p → x < u * p
below_product x u p some less =
    let split : u * (x / u) + x % u ≡ x = omega arith in
    let rest : x % u < u = omega arith in
    let k : u * suc (x / u) ≤ u * p = mul-le-mul_left u less in
    omega (arith, split, rest, k)

less_by_quotient : (j k w : ℕ) → 1 ≤ w → j / w < k / w → j < k
less_by_quotient j k w some less =
    let a : w * (j / w) + j % w ≡ j = omega arith in
    let b : w * (k / w) + k % w ≡ k = omega arith in
    let rest : j % w < w = omega arith in
    let m : w * suc (j / w) ≤ w * (k / w) = mul-le-mul_left w less in
    omega (arith, a, b, rest, m)

less_by_rest : (j k w : ℕ) → 1 ≤ w → j / w ≡ k / w → j % w < k % w → j < k
less_by_rest j k w some same less =
    let a : w * (j / w) + j % w ≡ j = omega arith in
    let b : w * (k / w) + k % w ≡ k = omega arith in
    let m : w * (j / w) ≡ w * (k / w) = ap (λ n. w * n) same in
    omega (arith, a, b, m)

pos_less : (x y : ℕ) → int_lt (pos x) (pos y) ≡ true → x < y
pos_less x y e = grind (arith, ints)

pos_same : (x y : ℕ) → int_eq (pos x) (pos y) ≡ true → x ≡ y
pos_same x y e = grind (arith, ints)

pub spots_in_order : (w j k : ℕ) → 1 ≤ w → cell_before (spot w j) (spot w k) ≡ true → j < k
spots_in_order w j k some e =
    elim (or_cases (int_lt (pos (j / w)) (pos (k / w))) (int_eq (pos (j / w)) (pos (k / w)) && int_lt (pos (j % w)) (pos (k % w))) e) [
      | inl h ↦ less_by_quotient j k w some (pos_less (j / w) (k / w) h)
      | inr h ↦
          let both = and_parts (int_eq (pos (j / w)) (pos (k / w))) (int_lt (pos (j % w)) (pos (k % w))) h in
          less_by_rest j k w some (pos_same (j / w) (k / w) both.0) (pos_less (j % w) (k % w) both.1)
    ]

natural : (z : ℤ) (u p : ℕ) → 1 ≤ u → pos 0 ≤ℤ floor_div z u → floor_div z u <ℤ pos p → (x : ℕ) × (z ≡ pos x) × (x < u * p)
natural (pos x) u p some from below = let l : x / u < p = omega (arith, ints) in (x, refl, below_product x u p some l)
natural (negsuc x) u p some from below = absurd (omega (arith, ints))

-- pairs of one window with different numbers differ
pub one_number : (w j k : ℕ) → 1 ≤ w → spot w j ≡ spot w k → j ≡ k
one_number w j k some e =
    let column : j % w ≡ k % w = same_pos (j % w) (k % w) (ap (λ (c : Cell). c.a) e) in
    let row : j / w ≡ k / w = same_pos (j / w) (k / w) (ap (λ (c : Cell). c.b) e) in
    let a : w * (j / w) + j % w ≡ j = omega arith in
    let b : w * (k / w) + k % w ≡ k = omega arith in
    let m : w * (j / w) ≡ w * (k / w) = ap (λ n. w * n) row in
    omega (arith, a, b, m, column)
  where
    same_pos : (x y : ℕ) → pos x ≡ pos y → x ≡ y
    same_pos x y e = omega (arith, ints, e)

-- a reduced cell, and its number
pub record HasNumber (g : Geometry) (t : Triple) (d : Cell) : Type 0 where
  pub column : ℕ
  pub row : ℕ
  pub a_is : d.a ≡ pos column
  pub b_is : d.b ≡ pos row
  pub below : row * (g.unit * t.p) + column < window_size g t
  pub is : d ≡ in_window g t (row * (g.unit * t.p) + column)

module _ (g : Geometry) (law : IsGrid g) (t : Triple) (triple : IsTriple t) where
  pub wide_some : 1 ≤ g.unit * t.p
  wide_some =
      let k : g.unit * 1 ≤ g.unit * t.p = mul-le-mul_left g.unit triple.p_positive in
      let some = law.unit_range.0 in
      omega (arith, k)

  pub window_reduced : (k : ℕ) → k < window_size g t → IsCell g (in_window g t k) → IsReduced g t (in_window g t k)
  window_reduced k less h =
      let w : ℕ = g.unit * t.p in
      let some = law.unit_range.0 in
      let ws : 1 ≤ w = wide_some in
      let column : k % w < w = omega arith in
      let row : k / w < g.unit * t.q = below_quotient k w (g.unit * t.q) ws less in
      let a = unit_between (pos (k % w)) (pos (g.unit * t.p)) g.unit t.p some refl (omega (arith, ints)) (omega (arith, ints, column)) in
      let b = unit_between (pos (k / w)) (pos (g.unit * t.q)) g.unit t.q some refl (omega (arith, ints)) (omega (arith, ints, row)) in
      record { in_grid = h; a_from = a.0; a_below = a.1; b_from = b.0; b_below = b.1 }

  pub reduced_number : (d : Cell) → IsReduced g t d → HasNumber g t d
  reduced_number d red =
      let some = law.unit_range.0 in
      let x = natural d.a g.unit t.p some red.a_from red.a_below in
      let y = natural d.b g.unit t.q some red.b_from red.b_below in
      let n = at_number (g.unit * t.p) (g.unit * t.q) x.0 y.0 wide_some x.2 y.2 x.1 y.1 in
      record { column = x.0; row = y.0; a_is = x.1; b_is = y.1; below = n.0; is = n.1 }
    where
      turn_product : (m n : ℕ) → m * n ≡ n * m
      turn_product m n = omega arith

      at_number : (w h x y : ℕ) → 1 ≤ w → x < w → y < h → d.a ≡ pos x → d.b ≡ pos y → (y * w + x < w * h) × (d ≡ spot w (y * w + x))
      at_number w h x y ws column row a b =
          let j : ℕ = y * w + x in
          let quotient : j / w ≡ y = div-mul-add y w x column in
          let split : w * (j / w) + j % w ≡ j = omega arith in
          let product : w * (j / w) ≡ y * w = ap (λ n. w * n) quotient ∙ turn_product w y in
          let rest : j % w ≡ x = omega (arith, split, product) in
          let k : w * suc y ≤ w * h = mul-le-mul_left w row in
          let same : w * y ≡ y * w = turn_product w y in
          (omega (arith, k, same, column), Cell-eta d (spot w j) (a ∙ ap pos (sym rest)) (b ∙ ap pos (sym quotient)))

  -- the number that the code computes
  pub numbered : (d : Cell) → IsReduced g t d → (wide n : ℕ) → wide ≡ g.unit * t.p → ((x y : ℕ) → d.a ≡ pos x → d.b ≡ pos y → n ≡ y * wide + x) → (in_window g t n ≡ d) × (n < window_size g t)
  numbered d red wide n wide_is f =
      let h = reduced_number d red in
      let e : n ≡ h.row * (g.unit * t.p) + h.column = f h.column h.row h.a_is h.b_is ∙ ap (λ w. h.row * w + h.column) wide_is in
      (ap (in_window g t) e ∙ sym h.is, subst (λ k. k < window_size g t) (sym e) h.below)

  module _ (cells : List Cell) (counts : List ℕ) (are : AreCounts g t cells counts) (low most : ℕ) where
    pub same_test : (k : ℕ) → k < window_size g t → is_amiss_at g t counts low most k ≡ is_amiss g cells low most (in_window g t k)
    same_test k less = ap (λ n. g.is_cell (in_window g t k) && (nat_lt n low || nat_lt most n)) (are.each k less)

    pub first_reduced : (c : Cell) → IsFirstNumber g t (is_amiss_at g t counts low most) c → IsFirstAmiss g t (is_amiss g cells low most) c
    first_reduced c f =
        let amiss : is_amiss g cells low most (in_window g t f.at) ≡ true = sym (same_test f.at f.below) ∙ f.amiss in
        let in_grid : IsCell g (in_window g t f.at) = (and_parts (g.is_cell (in_window g t f.at)) (nat_lt (times_in cells (in_window g t f.at)) low || nat_lt most (times_in cells (in_window g t f.at))) amiss).0 in
        record {
          reduced = subst (IsReduced g t) (sym f.is) (window_reduced f.at f.below in_grid);
          amiss = ap (is_amiss g cells low most) f.is ∙ amiss;
          first = λ d red bad before.
              let h = reduced_number d red in
              let j : ℕ = h.row * (g.unit * t.p) + h.column in
              let order : cell_before (in_window g t j) (in_window g t f.at) ≡ true = sym (λ i. cell_before (h.is i) (f.is i)) ∙ before in
              true≢false (sym bad ∙ ap (is_amiss g cells low most) h.is ∙ sym (same_test j h.below) ∙ f.before j (spots_in_order (g.unit * t.p) j f.at wide_some order));
        }

    pub none_reduced : ((k : ℕ) → k < window_size g t → is_amiss_at g t counts low most k ≡ false) → (d : Cell) → IsReduced g t d → is_amiss g cells low most d ≡ false
    none_reduced f d red =
        let h = reduced_number d red in
        let j : ℕ = h.row * (g.unit * t.p) + h.column in
        ap (is_amiss g cells low most) h.is ∙ sym (same_test j h.below) ∙ f j h.below

pub window_small : (u p q : ℕ) → u ≤ 6 → (u * p) * (u * q) ≤ 36 * (p * q)
window_small u p q six =
    let a : (u * p) * (u * q) ≤ (6 * p) * (u * q) = mul-le-mul_right (u * q) (mul-le-mul_right p six) in
    let b : (6 * p) * (u * q) ≤ (6 * p) * (6 * q) = mul-le-mul_left (6 * p) (mul-le-mul_right q six) in
    let c : (6 * p) * (6 * q) ≡ 36 * (p * q) = grind arith in
    omega (arith, a, b, c)
