-- Masks by their bits.
use Rattle.std.proofs.Common.{◌≡◌, sym, ap, ◌∙◌, ℕ, zero, suc, ◌+◌, ◌-◌, ◌^◌, ◌<◌, ◌≤◌, min, max, true, nat_eq, eq-eqb, inl, inr, arith, w64}
use Rattle.std.specs.Int.{bit_at, bit_not, trailing_zeros}
use lib.Bits.{bit_and, bit_or}
use Rattle.std.proofs.lemmas.Nat.Bits.{bit_at_or, bit_at_and, bit_at-zero, bit_at-lt, bit_at_above, bit_at_not, bit_at-trailing_zeros, same_from_bits}
use Rattle.std.proofs.lemmas.Nat.{and_le_l, and_assoc, and_comm}
use Rattle.std.proofs.lemmas.Bool.{cases_lt, eqb-true}
use Rattle.heesch_exact.specs.Covers.{is_within, without}
use Rattle.heesch_exact.specs.Branches.{IsPart}

-- a mask has no point beyond 63
pub above : (m k : ℕ) → m < 2 ^ 64 → 64 ≤ k → bit_at m k ≡ 0
above m k fits l = bit_at_above m 64 k fits l

and_not : (m p k : ℕ) → p < 2 ^ 64 → k < 64 → bit_at (bit_and m (bit_not w64 p)) k ≡ min (bit_at m k) (1 - bit_at p k)
and_not m p k fits l = bit_at_and m (bit_not w64 p) k ∙ ap (min (bit_at m k)) (bit_at_not w64 p k fits l)

and_not_above : (m p k : ℕ) → m < 2 ^ 64 → 64 ≤ k → bit_at (bit_and m (bit_not w64 p)) k ≡ 0
and_not_above m p k fits l =
    let e = bit_at_and m (bit_not w64 p) k in
    let z = above m k fits l in
    zero_min (bit_at (bit_and m (bit_not w64 p)) k) (bit_at m k) (bit_at (bit_not w64 p) k) e z
  where
    zero_min : (r a b : ℕ) → r ≡ min a b → a ≡ 0 → r ≡ 0
    zero_min r a b e z = omega arith

pub part_from_none : (m p : ℕ) → m < 2 ^ 64 → p < 2 ^ 64 → bit_and m (bit_not w64 p) ≡ 0 → IsPart m p
part_from_none m p small fits none k =
    elim (cases_lt k 64) [
      | inl l ↦ last (bit_at m k) (bit_at p k) (bit_at-lt m k) (bit_at-lt p k) (sym (and_not m p k fits l) ∙ ap (λ n. bit_at n k) none ∙ bit_at-zero k)
      | inr l ↦ omega (arith, above m k small l)
    ]
  where
    last : (a b : ℕ) → a < 2 → b < 2 → min a (1 - b) ≡ 0 → a ≤ b
    last a b h g e = omega arith

pub none_from_part : (m p : ℕ) → m < 2 ^ 64 → p < 2 ^ 64 → ((k : ℕ) → k < 64 → bit_at m k ≤ bit_at p k) → bit_and m (bit_not w64 p) ≡ 0
none_from_part m p small fits part = same_from_bits (bit_and m (bit_not w64 p)) 0 each
  where
    last : (a b : ℕ) → b < 2 → a ≤ b → min a (1 - b) ≡ 0
    last a b g e = omega arith

    each : (k : ℕ) → bit_at (bit_and m (bit_not w64 p)) k ≡ bit_at 0 k
    each k =
        elim (cases_lt k 64) [
          | inl l ↦ and_not m p k fits l ∙ last (bit_at m k) (bit_at p k) (bit_at-lt p k) (part k l) ∙ sym (bit_at-zero k)
          | inr l ↦ and_not_above m p k small l ∙ sym (bit_at-zero k)
        ]

-- the points without those of a part of them
pub bit_at_without : (p m k : ℕ) → p < 2 ^ 64 → m < 2 ^ 64 → IsPart m p → bit_at (without p m) k + bit_at m k ≡ bit_at p k
bit_at_without p m k fits small part =
    elim (cases_lt k 64) [
      | inl l ↦ last (bit_at (without p m) k) (bit_at p k) (bit_at m k) (bit_at-lt p k) (part k) (and_not p m k small l)
      | inr l ↦ none (bit_at (without p m) k) (bit_at p k) (bit_at m k) (above p k fits l) (part k) (and_not_above p m k fits l)
    ]
  where
    last : (r a b : ℕ) → a < 2 → b ≤ a → r ≡ min a (1 - b) → r + b ≡ a
    last r a b h g e = omega arith

    none : (r a b : ℕ) → a ≡ 0 → b ≤ a → r ≡ 0 → r + b ≡ a
    none r a b h g e = omega arith

-- sets with no common point
pub apart_bits : (a m : ℕ) → nat_eq (bit_and a m) 0 ≡ true → (k : ℕ) → bit_at a k + bit_at m k ≤ 1
apart_bits a m h k =
    let e = eqb-true (bit_and a m) 0 h in
    last (bit_at a k) (bit_at m k) (bit_at-lt a k) (bit_at-lt m k) (sym (bit_at_and a m k) ∙ ap (λ n. bit_at n k) e ∙ bit_at-zero k)
  where
    last : (x y : ℕ) → x < 2 → y < 2 → min x y ≡ 0 → x + y ≤ 1
    last x y p q r = omega arith

pub apart_from_bits : (a m : ℕ) → ((k : ℕ) → bit_at a k + bit_at m k ≤ 1) → nat_eq (bit_and a m) 0 ≡ true
apart_from_bits a m h = eq-eqb (bit_and a m) 0 (same_from_bits (bit_and a m) 0 (λ k. bit_at_and a m k ∙ last (bit_at a k) (bit_at m k) (h k) ∙ sym (bit_at-zero k)))
  where
    last : (x y : ℕ) → x + y ≤ 1 → min x y ≡ 0
    last x y p = omega arith

-- a mask that is not 0 has a point
pub some_point : (m : ℕ) → 0 < m → m < 2 ^ 64 → (k : ℕ) × (k < 64) × (bit_at m k ≡ 1)
some_point m pos fits = let t = bit_at-trailing_zeros w64 m pos fits in (_, t.0, t.1)

pub pos_from_bit : (m k : ℕ) → bit_at m k ≡ 1 → 0 < m
pos_from_bit zero k e = absurd (omega (arith, bit_at-zero k))
pos_from_bit (suc m) k e = omega arith

-- one more set is counted: where `high` has the points of more than j sets and `low` those of at least j
pub count_more : (high low m k s j : ℕ) → bit_at high k ≡ min 1 (s - (j + 1)) → bit_at low k ≡ min 1 (s - j) → bit_at (bit_or high (bit_and low m)) k ≡ min 1 (s + bit_at m k - (j + 1))
count_more high low m k s j h l =
    bit_at_or high (bit_and low m) k ∙ ap (max (bit_at high k)) (bit_at_and low m k) ∙ last (bit_at high k) (bit_at low k) (bit_at m k) s j h l (bit_at-lt m k)
  where
    last : (x y b s j : ℕ) → x ≡ min 1 (s - (j + 1)) → y ≡ min 1 (s - j) → b < 2 → max x (min y b) ≡ min 1 (s + b - (j + 1))
    last x y b s j p q r = omega arith

pub minus_none : (n : ℕ) → n ≡ n - 0
minus_none n = omega arith

pub count_first : (low m k s : ℕ) → bit_at low k ≡ min 1 s → bit_at (bit_or low m) k ≡ min 1 (s + bit_at m k)
count_first low m k s h = bit_at_or low m k ∙ last (bit_at low k) (bit_at m k) s h (bit_at-lt m k)
  where
    last : (x b s : ℕ) → x ≡ min 1 s → b < 2 → max x b ≡ min 1 (s + b)
    last x b s p q = omega arith

-- ---- which point is covered next

and_at_most : (p m k : ℕ) → bit_at (bit_and p m) k ≤ bit_at p k
and_at_most p m k = let e = bit_at_and p m k in omega (arith, e)

pub first_point : (rare left : ℕ) → 0 < rare → rare < 2 ^ 64 → IsPart rare left → (trailing_zeros w64 rare < 64) × (bit_at left (trailing_zeros w64 rare) ≡ 1)
first_point rare left pos fits part =
    let t = bit_at-trailing_zeros w64 rare pos fits in
    let p = part (trailing_zeros w64 rare) in
    let m = bit_at-lt left (trailing_zeros w64 rare) in
    (t.0, omega (arith, t.1, p, m))

pub first_among : (left m : ℕ) → left < 2 ^ 64 → (bit_and left m ≡ 0 → ⊥) → (trailing_zeros w64 (bit_and left m) < 64) × (bit_at left (trailing_zeros w64 (bit_and left m)) ≡ 1)
first_among left m fits not = let l = and_le_l left m in first_point (bit_and left m) left (omega arith) (omega (arith, l)) (and_at_most left m)

-- a point that is left and that no set has
pub point_without : (left one : ℕ) → left < 2 ^ 64 → one < 2 ^ 64 → (bit_and left (bit_not w64 one) ≡ 0 → ⊥) → (k : ℕ) × (bit_at left k ≡ 1) × (bit_at one k ≡ 0)
point_without left one fits small not =
    let l = and_le_l left (bit_not w64 one) in
    let s = some_point (bit_and left (bit_not w64 one)) (omega arith) (omega (arith, l)) in
    let e = and_not left one s.0 small s.1 in
    (s.0, omega (arith, e, s.2, bit_at-lt left s.0), omega (arith, e, s.2, bit_at-lt one s.0))

-- ---- one set beside another

pub without_small : (p m : ℕ) → p < 2 ^ 64 → without p m < 2 ^ 64
without_small p m fits = let l = and_le_l p (bit_not w64 m) in omega (arith, l, fits)

pub within_part : (p m : ℕ) → p < 2 ^ 64 → m < 2 ^ 64 → is_within p m ≡ true → IsPart m p
within_part p m fits small e = part_from_none m p small fits (eqb-true (bit_and m (bit_not w64 p)) 0 e)

pub part_within : (p m : ℕ) → p < 2 ^ 64 → m < 2 ^ 64 → ((k : ℕ) → k < 64 → bit_at m k ≤ bit_at p k) → is_within p m ≡ true
part_within p m fits small part = eq-eqb (bit_and m (bit_not w64 p)) 0 (none_from_part m p small fits part)

module _ (p c m : ℕ) (fits : p < 2 ^ 64) (other : c < 2 ^ 64) (small : m < 2 ^ 64) where
  beside_bits : is_within (without p c) m ≡ true → (k : ℕ) → k < 64 → bit_at m k ≤ min (bit_at p k) (1 - bit_at c k)
  beside_bits e k l =
      let part = within_part (without p c) m (without_small p c fits) small e k in
      let is = and_not p c k other l in
      omega (arith, part, is)

  pub within_less : is_within (without p c) m ≡ true → is_within p m ≡ true
  within_less e = part_within p m fits small (λ k l. let b = beside_bits e k l in omega (arith, b))

  pub lacks_point : (k : ℕ) → bit_at c k ≡ 1 → bit_at m k ≡ 1 → is_within (without p c) m ≡ true → ⊥
  lacks_point k a b e =
      elim (cases_lt k 64) [
        | inl l ↦ let s = beside_bits e k l in omega (arith, s, a, b)
        | inr l ↦ let z = above m k small l in omega (arith, z, b)
      ]

  pub exchange : is_within p c ≡ true → is_within (without p c) m ≡ true → is_within (without p m) c ≡ true
  exchange w e = part_within (without p m) c (without_small p m fits) other each
    where
      last : (a b x r : ℕ) → a ≤ x → b ≤ min x (1 - a) → r ≡ min x (1 - b) → b < 2 → a < 2 → a ≤ r
      last a b x r i j e k l = omega arith

      each : (k : ℕ) → k < 64 → bit_at c k ≤ bit_at (without p m) k
      each k l = last (bit_at c k) (bit_at m k) (bit_at p k) (bit_at (without p m) k) (within_part p c fits other w k) (beside_bits e k l) (and_not p m k small l) (bit_at-lt m k) (bit_at-lt c k)

pub without_swapped : (p c m : ℕ) → without (without p c) m ≡ without (without p m) c
without_swapped p c m = and_assoc (bit_not w64 m) p (bit_not w64 c) ∙ ap (bit_and p) (and_comm (bit_not w64 c) (bit_not w64 m)) ∙ sym (and_assoc (bit_not w64 c) p (bit_not w64 m))
