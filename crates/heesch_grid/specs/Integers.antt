-- Products of integers, and divisibility.
use Rattle.std.proofs.Common.{◌≡◌, ℕ, zero, suc, ◌*◌, ◌/◌, ◌%◌, ◌≤◌, Bool, true, false, ℤ, pos, negsuc, ◌+ℤ◌, ◌-ℤ◌, ◌*ℤ◌, ◌≤ℤ◌, neg_ℤ, unsigned_abs, refl, sym, ap, arith, inl, inr}
use Rattle.std.proofs.lemmas.Int.{ints, unsigned_abs-mul}
use Rattle.std.proofs.lemmas.Bool.{eqb-true, eq-eqb, cases_lt}
use Rattle.std.proofs.Math.Nat.{mul-le-mul_left, mul-le-mul_right, mul-mod_right}
use borrow.Author.Differences.{up, down, sum_is_lem, product_is, neg_is, le_out}
use Rattle.heesch_grid.specs.Pattern.{divides}

pub mul_add : (r x y : ℤ) → (r *ℤ (x +ℤ y)) ≡ ((r *ℤ x) +ℤ (r *ℤ y))
mul_add r x y =
    omega (arith, ints, ap (λ n. up r * n) (sum_is_lem x y), ap (λ n. down r * n) (sum_is_lem x y))

pub mul_comm : (x y : ℤ) → (x *ℤ y) ≡ (y *ℤ x)
mul_comm x y = omega (arith, ints)

pub mul_assoc : (x y z : ℤ) → (x *ℤ (y *ℤ z)) ≡ ((x *ℤ y) *ℤ z)
mul_assoc x y z =
    let p = product_is y z in
    let q = product_is x y in
    omega (arith, ints, ap (λ n. up x * n) p.0, ap (λ n. up x * n) p.1, ap (λ n. down x * n) p.0, ap (λ n. down x * n) p.1, ap (λ n. n * up z) q.0, ap (λ n. n * up z) q.1, ap (λ n. n * down z) q.0, ap (λ n. n * down z) q.1)

pub mul_neg : (x y : ℤ) → (x *ℤ neg_ℤ y) ≡ neg_ℤ (x *ℤ y)
mul_neg x y =
    let e = neg_is y in
    omega (arith, ints, ap (λ n. up x * n) e.0, ap (λ n. up x * n) e.1, ap (λ n. down x * n) e.0, ap (λ n. down x * n) e.1)

pub mul_sub : (r x y : ℤ) → (r *ℤ (x -ℤ y)) ≡ ((r *ℤ x) -ℤ (r *ℤ y))
mul_sub r x y = rw (mul_add, mul_neg) refl

pub same_truth : (x y : Bool) → (x ≡ true → y ≡ true) → (y ≡ true → x ≡ true) → x ≡ y
same_truth true y to back = sym (to refl)
same_truth false true to back = back refl
same_truth false false to back = refl

pub divides_multiple : (n : ℕ) (z q : ℤ) → z ≡ pos n *ℤ q → divides n z ≡ true
divides_multiple n z q e =
    rw e (rw unsigned_abs-mul (eq-eqb (n * unsigned_abs q % n) 0 (mul-mod_right n (unsigned_abs q))))

pub quotient : (n : ℕ) (z : ℤ) → 1 ≤ n → divides n z ≡ true → (q : ℤ) × (z ≡ pos n *ℤ q)
quotient n (pos m) low h =
    let e = eqb-true (m % n) 0 h in
    (pos (m / n), ap pos (omega arith))
quotient n (negsuc m) low h =
    let e = eqb-true (suc m % n) 0 h in
    let k : n * (suc m / n) ≡ suc m = omega arith in
    (neg_ℤ (pos (suc m / n)), rw mul_neg (omega (arith, ints)))

pub divides_moved : (n : ℕ) (z q : ℤ) → 1 ≤ n → divides n (z +ℤ (pos n *ℤ q)) ≡ divides n z
divides_moved n z q low =
    same_truth (divides n (z +ℤ (pos n *ℤ q))) (divides n z)
    (λ h. let k = quotient n (z +ℤ (pos n *ℤ q)) low h in divides_multiple n z (k.0 -ℤ q) (omega (arith, ints, k.1, mul_sub (pos n) k.0 q)))
    (λ h. let k = quotient n z low h in divides_multiple n (z +ℤ (pos n *ℤ q)) (k.0 +ℤ q) (omega (arith, ints, k.1, mul_add (pos n) k.0 q)))

-- a factor that is at most four times as small
pub small_factor : (s : ℕ) (z : ℤ) → 1 ≤ s → (pos s *ℤ z) ≤ℤ pos (4 * s) → z ≤ℤ pos 4
small_factor s (pos n) low h =
    elim (cases_lt n 5) [ inl k ↦ omega (arith, ints) | inr k ↦ absurd (omega (arith, le_out (pos s *ℤ pos n) (pos (4 * s)) h, mul-le-mul_left s k)) ]
small_factor s (negsuc n) low h = omega (arith, ints)

pub add_mul : (x y r : ℤ) → ((x +ℤ y) *ℤ r) ≡ ((x *ℤ r) +ℤ (y *ℤ r))
add_mul x y r =
    omega (arith, ints, ap (λ n. n * up r) (sum_is_lem x y), ap (λ n. n * down r) (sum_is_lem x y))

-- a product by -1, 0 or 1
pub small_product : (x z : ℤ) (n : ℕ) → negsuc 0 ≤ℤ x → x ≤ℤ pos 1 → neg_ℤ (pos n) ≤ℤ z → z ≤ℤ pos n → (neg_ℤ (pos n) ≤ℤ (x *ℤ z)) × ((x *ℤ z) ≤ℤ pos n)
small_product (pos zero) z n h k l m = (omega (arith, ints), omega (arith, ints))
small_product (pos (suc zero)) z n h k l m = (omega (arith, ints), omega (arith, ints))
small_product (pos (suc (suc x))) z n h k l m = absurd (omega (arith, ints))
small_product (negsuc zero) z n h k l m = (omega (arith, ints), omega (arith, ints))
small_product (negsuc (suc x)) z n h k l m = absurd (omega (arith, ints))

-- a multiple by at most six
pub small_multiple : (n : ℕ) (z : ℤ) (m : ℕ) → n ≤ 6 → neg_ℤ (pos m) ≤ℤ z → z ≤ℤ pos m → (neg_ℤ (pos (6 * m)) ≤ℤ (pos n *ℤ z)) × ((pos n *ℤ z) ≤ℤ pos (6 * m))
small_multiple n (pos k) m h low high =
    let e = mul-le-mul_right k h in
    (omega (arith, ints, e), omega (arith, ints, e))
small_multiple n (negsuc k) m h low high =
    let e = mul-le-mul_right (suc k) h in
    (omega (arith, ints, e), omega (arith, ints, e))
