-- The kind of a cell, and what a translation by a multiple of the unit keeps.
use Rattle.std.proofs.Common.{◌≡◌, ℕ, ◌≤◌, Bool, true, false, ◌&&◌, ◌||◌, List, [], ◌∷◌, map, length, filter, ℤ, pos, ◌+ℤ◌, ◌-ℤ◌, ◌*ℤ◌, refl, sym, ap, ◌∙◌, arith}
use Rattle.std.specs.Prelude.{if◌then◌else◌}
use Rattle.std.specs.Ordering.{int_eq}
use Rattle.std.specs.List.{list_any, list_all}
use Rattle.std.proofs.lemmas.Int.{ints}
use Rattle.std.proofs.lemmas.Bool.{and_parts, true≢false}
use Rattle.std.proofs.lemmas.Bool.Decides.{Decides-int_eq}
use Rattle.heesch_grid.specs.declared.Cell.{Cell}
use Rattle.heesch_grid.specs.Cells.{cell, same_cell}
use Rattle.heesch_grid.specs.Pairs.{Cell-eta, times_add}
use Rattle.heesch_grid.specs.Pattern.{Kind, Pattern, congruent, divides, grid_of, kind_of, shared}
use Rattle.heesch_grid.specs.Vectors.{plus, times}
use Rattle.heesch_grid.specs.Integers.{divides_moved, quotient, same_truth}
use Rattle.heesch_grid.specs.Lists.{any_like, any_map, filter_like, length-filter_map}

pub congruent_moved : (n : ℕ) (c v k : Cell) → 1 ≤ n → congruent n (plus c (times n v)) k ≡ congruent n c k
congruent_moved n c v k low =
    let e : ((c.a +ℤ (pos n *ℤ v.a)) -ℤ k.a) ≡ ((c.a -ℤ k.a) +ℤ (pos n *ℤ v.a)) = omega (arith, ints) in
    let f : ((c.b +ℤ (pos n *ℤ v.b)) -ℤ k.b) ≡ ((c.b -ℤ k.b) +ℤ (pos n *ℤ v.b)) = omega (arith, ints) in
    let x : divides n ((c.a +ℤ (pos n *ℤ v.a)) -ℤ k.a) ≡ divides n (c.a -ℤ k.a) = ap (divides n) e ∙ divides_moved n (c.a -ℤ k.a) v.a low in
    let y : divides n ((c.b +ℤ (pos n *ℤ v.b)) -ℤ k.b) ≡ divides n (c.b -ℤ k.b) = ap (divides n) f ∙ divides_moved n (c.b -ℤ k.b) v.b low in
    both_same x y
  where
    both_same : {p q r s : Bool} → p ≡ q → r ≡ s → (p && r) ≡ (q && s)
    both_same {p} {q} {r} {s} x y = ap (λ b. b && r) x ∙ ap (λ b. q && b) y

pub kind_moved : (n : ℕ) (ks : List Kind) (c v : Cell) → 1 ≤ n → kind_of n ks (plus c (times n v)) ≡ kind_of n ks c
kind_moved n [] c v low = refl
kind_moved n (k ∷ ks) c v low =
    ap (λ b. if b then k else kind_of n ks (plus c (times n v))) (congruent_moved n c v k.cell low)
    ∙ ap (λ r. if congruent n c k.cell then k else r) (kind_moved n ks c v low)

-- the kind of a cell passes each test that all kinds pass, and the cell is congruent to its kind's
pub kind_found : (n : ℕ) (t : Kind → Bool) (ks : List Kind) (c : Cell) → list_all t ks ≡ true → list_any (λ k. congruent n c k.cell) ks ≡ true → (t (kind_of n ks c) ≡ true) × (congruent n c (kind_of n ks c).cell ≡ true)
kind_found n t [] c a h = absurd (true≢false (sym h))
kind_found n t (k ∷ ks) c a h =
    let both = and_parts (t k) (list_all t ks) a in
    let P : Bool → Type 0 = λ b. congruent n c k.cell ≡ b → (b || list_any (λ k. congruent n c k.cell) ks) ≡ true → (t (if b then k else kind_of n ks c) ≡ true) × (congruent n c (if b then k else kind_of n ks c).cell ≡ true) in
    let all : (b : Bool) → P b = λ b. elim b as P [ true ↦ λ e g. (both.0, e) | false ↦ λ e g. kind_found n t ks c both.1 g ] in
    all (congruent n c k.cell) refl h

-- a cell is its kind's, moved by a multiple of the unit
pub moved_from : (n : ℕ) (c o : Cell) → 1 ≤ n → congruent n c o ≡ true → (q : Cell) × (c ≡ plus o (times n q))
moved_from n c o low h =
    let both = and_parts (divides n (c.a -ℤ o.a)) (divides n (c.b -ℤ o.b)) h in
    let x = quotient n (c.a -ℤ o.a) low both.0 in
    let y = quotient n (c.b -ℤ o.b) low both.1 in
    (cell x.0 y.0, Cell-eta c (plus o (times n (cell x.0 y.0))) (omega (arith, ints, x.1)) (omega (arith, ints, y.1)))

pub same_cell_moved : (x y w k l : Cell) → same_cell (plus (plus x w) k) (plus (plus y w) l) ≡ same_cell (plus x k) (plus y l)
same_cell_moved x y w k l =
    let e : int_eq ((x.a +ℤ w.a) +ℤ k.a) ((y.a +ℤ w.a) +ℤ l.a) ≡ int_eq (x.a +ℤ k.a) (y.a +ℤ l.a) = int_eq_like ((x.a +ℤ w.a) +ℤ k.a) ((y.a +ℤ w.a) +ℤ l.a) (x.a +ℤ k.a) (y.a +ℤ l.a) (λ h. omega (arith, ints)) (λ h. omega (arith, ints)) in
    let f : int_eq ((x.b +ℤ w.b) +ℤ k.b) ((y.b +ℤ w.b) +ℤ l.b) ≡ int_eq (x.b +ℤ k.b) (y.b +ℤ l.b) = int_eq_like ((x.b +ℤ w.b) +ℤ k.b) ((y.b +ℤ w.b) +ℤ l.b) (x.b +ℤ k.b) (y.b +ℤ l.b) (λ h. omega (arith, ints)) (λ h. omega (arith, ints)) in
    ap (λ b. b && int_eq ((x.b +ℤ w.b) +ℤ k.b) ((y.b +ℤ w.b) +ℤ l.b)) e ∙ ap (λ b. int_eq (x.a +ℤ k.a) (y.a +ℤ l.a) && b) f
  where
    int_eq_like : (x y z w : ℤ) → (x ≡ y → z ≡ w) → (z ≡ w → x ≡ y) → int_eq x y ≡ int_eq z w
    int_eq_like x y z w to back =
        same_truth (int_eq x y) (int_eq z w) (λ h. (Decides-int_eq z w).1 (to ((Decides-int_eq x y).0 h))) (λ h. (Decides-int_eq x y).1 (back ((Decides-int_eq z w).0 h)))

-- how many corners K at x are corners L at y
abbrev pub overlap : Cell → Cell → List Cell → List Cell → ℕ
overlap x y K L = length (filter (λ k. list_any (same_cell k) (map (plus y) L)) (map (plus x) K))

pub overlap_moved : (x y w : Cell) (K L : List Cell) → overlap (plus x w) (plus y w) K L ≡ overlap x y K L
overlap_moved x y w K L =
    length-filter_map (λ k. list_any (same_cell k) (map (plus (plus y w)) L)) (plus (plus x w)) K
    ∙ ap length (filter_like (λ k. list_any (same_cell (plus (plus x w) k)) (map (plus (plus y w)) L)) (λ k. list_any (same_cell (plus x k)) (map (plus y) L)) K (λ k. any_map (same_cell (plus (plus x w) k)) (plus (plus y w)) L ∙ any_like (λ l. same_cell (plus (plus x w) k) (plus (plus y w) l)) (λ l. same_cell (plus x k) (plus y l)) L (λ l. same_cell_moved x y w k l) ∙ sym (any_map (same_cell (plus x k)) (plus y) L)))
    ∙ sym (length-filter_map (λ k. list_any (same_cell k) (map (plus y) L)) (plus x) K)

module _ (p : Pattern) (low : 1 ≤ p.unit) where
  pub is_cell_moved : (c v : Cell) → (grid_of p).is_cell (plus c (times p.unit v)) ≡ (grid_of p).is_cell c
  is_cell_moved c v = any_like (λ k. congruent p.unit (plus c (times p.unit v)) k.cell) (λ k. congruent p.unit c k.cell) p.kinds (λ k. congruent_moved p.unit c v k.cell low)

  pub shared_moved : (c d v : Cell) → shared p (plus c (times p.unit v)) (plus d (times p.unit v)) ≡ shared p c d
  shared_moved c d v =
      let w = times p.unit v in
      rw (kind_moved p.unit p.kinds c v low, kind_moved p.unit p.kinds d v low, times_add p.scale c w, times_add p.scale d w) (overlap_moved (times p.scale c) (times p.scale d) (times p.scale w) (kind_of p.unit p.kinds c).corners (kind_of p.unit p.kinds d).corners)
