-- Numbers below a bound repeat.
use Rattle.std.proofs.Common.{◌≡◌, refl, sym, ap, ℕ, zero, suc, ◌<◌, ◌≤◌, eqb, Bool, true, false, List, [], ◌∷◌, length, ◌⊎◌, inl, inr, arith, true≢false}
use Rattle.std.specs.Prelude.{◌||◌}
use Rattle.std.specs.List.{list_any}
use Rattle.std.specs.List.{IsDistinct, AllByRecursion}
use Rattle.std.proofs.lemmas.Bool.{cases_Bool, or_cases}
use Rattle.std.proofs.lemmas.Bool.Decides.{nat_tests}
use Rattle.std.proofs.lemmas.Map.Steps.{length-le_from_distinct_below}

-- two places where the numbers are the same
pub record Repeat (f : ℕ → ℕ) : Type 0 where
  pub i : ℕ
  pub j : ℕ
  pub less : i < j
  pub same : f i ≡ f j

-- the first n numbers, from the last down
abbrev downs : (ℕ → ℕ) → ℕ → List ℕ
downs f zero = []
downs f (suc n) = f n ∷ downs f n

length-downs : (f : ℕ → ℕ) (n : ℕ) → length (downs f n) ≡ n
length-downs f zero = refl
length-downs f (suc n) = ap suc (length-downs f n)

same_number : (x y : ℕ) → eqb x y ≡ true → x ≡ y
same_number x y t = grind (arith, nat_tests)

member : (f : ℕ → ℕ) (x n : ℕ) → list_any (eqb x) (downs f n) ≡ true → (i : ℕ) × (i < n) × (x ≡ f i)
member f x zero t = absurd (true≢false (sym t))
member f x (suc n) t =
    elim (or_cases (eqb x (f n)) (list_any (eqb x) (downs f n)) t) [
      | inl e ↦ (n, omega arith, same_number x (f n) e)
      | inr h ↦ let r = member f x n h in let l = r.1 in (r.0, omega arith, r.2)
    ]

apart : (x : ℕ) (ys : List ℕ) → list_any (eqb x) ys ≡ false → AllByRecursion (λ y. eqb x y ≡ false) ys
apart x [] h = tt
apart x (y ∷ ys) h = both (eqb x y) (list_any (eqb x) ys) h (apart x ys)
  where
    both : (a b : Bool) → (a || b) ≡ false → (b ≡ false → AllByRecursion (λ y. eqb x y ≡ false) ys) → (a ≡ false) × AllByRecursion (λ y. eqb x y ≡ false) ys
    both true b h f = absurd (true≢false h)
    both false b h f = (refl, f h)

search_for : (f : ℕ → ℕ) (n : ℕ) → Repeat f ⊎ IsDistinct eqb (downs f n)
unfolding IsDistinct
search_for f zero = inr tt
search_for f (suc n) =
    elim (search_for f n) [
      | inl r ↦ inl r
      | inr d ↦ elim (cases_Bool (list_any (eqb (f n)) (downs f n))) [
        | inl t ↦ let r = member f (f n) n t in inl (record { i = r.0; j = n; less = r.1; same = sym r.2 })
        | inr others ↦ inr (apart (f n) (downs f n) others, d)
      ]
    ]

-- so many numbers below a bound repeat
pub repeated : (f : ℕ → ℕ) (n : ℕ) → ((k : ℕ) → f k < n) → Repeat f
repeated f n below =
    elim (search_for f (suc n)) [
      | inl r ↦ r
      | inr d ↦ absurd (too_long (length (downs f (suc n))) (length-downs f (suc n)) (length-le_from_distinct_below (downs f (suc n)) n d (λ q h. let r = member f q (suc n) h in let l = below r.0 in let e = r.2 in omega arith)))
    ]
  where
    too_long : (k : ℕ) → k ≡ suc n → k ≤ n → ⊥
    too_long k e l = omega arith
