-- Places that lie a step apart.
use Rattle.std.proofs.Common.{◌≡◌, refl, sym, ◌∙◌, ap, subst, ℕ, ◌+◌, ◌*◌, ◌/◌, ◌%◌, ◌<◌, ◌≤◌, List, length, get_or, arith, inl, inr}
use Rattle.std.specs.Prelude.{Some, slice_get}
use Rattle.std.proofs.Math.Nat.{mod-eq_of_lt, mul-add, mul-le-mul_left, mul-one}
use Rattle.std.proofs.lemmas.Bool.{cases_lt}
use Rattle.std.proofs.lemmas.Option.{slice_get_read}

-- a place of the same remainder, from one on and less than a step above it, is that place
same_place : (n k at : ℕ) → 0 < n → k % n ≡ at % n → at ≤ k → k < at + n → k ≡ at
same_place n k at some same low high =
    elim (cases_lt (at / n) (k / n)) [
      | inl less ↦
          let more : n * (at / n + 1) ≤ n * (k / n) = mul-le-mul_left n (omega (arith, less)) in
          omega (arith, more, mul-add n (at / n) 1, mul-one n)
      | inr least ↦
          let fewer : n * (k / n) ≤ n * (at / n) = mul-le-mul_left n least in
          omega (arith, fewer)
    ]

-- what holds of each so many-th item before a place, and of that at the place, holds of each before the next place
pub each_step : {X : Type 0} (P : X → Type 0) (xs : List X) (n first at : ℕ) (x : X) → 0 < n → at % n ≡ first → at < length xs → x ≡ get_or xs at x → P x
    → ((k : ℕ) (y : X) → k < at → slice_get xs k ≡ Some y → k % n ≡ first → P y)
    → (k : ℕ) (y : X) → k < at + n → slice_get xs k ≡ Some y → k % n ≡ first → P y
each_step P xs n first at x some place below is here before k y low there rest =
    elim (cases_lt k at) [
      | inl less ↦ before k y less there rest
      | inr from ↦
          let same : k ≡ at = same_place n k at some (rest ∙ sym place) from low in
          let item : slice_get xs at ≡ Some x = slice_get_read xs (length xs) at x refl below is in
          let one : x ≡ y = (cc (ap (slice_get xs) same)) in
          subst P one here
    ]

-- before the first place there is none
pub none_before : (n first k : ℕ) → first < n → k < first → k % n ≡ first → ⊥
none_before n first k low less rest =
    let small : k < n = omega arith in
    let same : k % n ≡ k = mod-eq_of_lt small in
    omega (arith, same, rest)
