-- Exact quotients.
use Rattle.std.proofs.Common.{◌≡◌, ap, ℕ, ◌+◌, ◌*◌, ◌/◌, ◌%◌, ◌≤◌, ℤ, pos, negsuc, neg_ℤ, ◌+ℤ◌, ◌-ℤ◌, ◌*ℤ◌, ◌≤ℤ◌, ◌<ℤ◌, arith}
use Rattle.std.specs.Int.{int_rem_euclid}
use Rattle.std.proofs.lemmas.Int.{ints}
use Rattle.heesch_grid.specs.Integers.{mul_neg}
use Rattle.heesch_grid.proofs.CanonicalFacts.{rounds_once}

-- what is left without the remainder is a multiple
pub quotient : (z unit : ℤ) → pos 1 ≤ℤ unit → (q : ℤ) × (z -ℤ int_rem_euclid z unit ≡ unit *ℤ q)
quotient (pos a) (pos n) low =
    let k : n * (a / n) + a % n ≡ a = let l : 1 ≤ n = omega (arith, ints) in omega arith in
    (pos (a / n), omega (arith, ints))
quotient (negsuc a) (pos n) low =
    let l : 1 ≤ n = omega (arith, ints) in
    let k : n * (a / n) + a % n ≡ a = omega arith in
    (neg_ℤ (pos (a / n + 1)), rw mul_neg (omega (arith, ints)))
quotient z (negsuc n) low = absurd (omega (arith, ints))

same_quotient : (unit z p q r : ℤ) → pos 1 ≤ℤ unit → (unit *ℤ p) +ℤ r ≡ z → pos 0 ≤ℤ r → r <ℤ unit → unit *ℤ q ≡ z → r ≡ pos 0
same_quotient (pos n) z p q r some e low high f =
    let same : p ≡ q = rounds_once z n p q (omega (arith, ints, some)) (record { low = omega (arith, ints, e, low); high = omega (arith, ints, e, high) }) (record { low = omega (arith, ints, f); high = omega (arith, ints, f, some) }) in
    let g = ap (λ x. pos n *ℤ x) same in
    omega (arith, ints, e, f, g)
same_quotient (negsuc n) z p q r some e low high f = absurd (omega (arith, ints, some))

-- a multiple leaves no remainder
pub no_rest : (unit z q r : ℤ) → pos 1 ≤ℤ unit → r ≡ int_rem_euclid z unit → pos 0 ≤ℤ r → r <ℤ unit → unit *ℤ q ≡ z → r ≡ pos 0
no_rest unit z q r some is low high f =
    let p = quotient z unit some in
    same_quotient unit z p.0 q r some (let e = p.1 in omega (arith, ints, e, is)) low high f

-- two quotients by one number are one
pub one_quotient : (n : ℕ) (x y z : ℤ) → 1 ≤ n → pos n *ℤ x ≡ z → pos n *ℤ y ≡ z → x ≡ y
one_quotient n x y z l e f = rounds_once z n x y l (record { low = omega (arith, ints, e); high = omega (arith, ints, e, l) }) (record { low = omega (arith, ints, f); high = omega (arith, ints, f, l) })
