-- How many elements of the first ones of a list pass, and which the next that passes is.
use Rattle.std.proofs.Common.{◌≡◌, refl, ap, ◌∙◌, ℕ, zero, suc, ◌+◌, ◌<◌, ◌≤◌, List, [], ◌∷◌, filter, length, get_or, take, Bool, true, false, cond, arith}
use Rattle.std.proofs.lemmas.List.{take_all}

module _ {X : Type 0} (p : X → Bool) where
  -- the element at a place, where it passes
  pub kept_at : (xs : List X) (i : ℕ) (d : X) → i < length xs → p (get_or xs i d) ≡ true → get_or (filter p xs) (length (filter p (take i xs))) d ≡ get_or xs i d
  kept_at [] i d l t = absurd (omega arith)
  kept_at (x ∷ xs) zero d l t = ap (λ b. get_or (cond b (x ∷ filter p xs) (filter p xs)) 0 d) t
  kept_at (x ∷ xs) (suc i) d l t =
      elim (p x) as (λ b. get_or (cond b (x ∷ filter p xs) (filter p xs)) (length (cond b (x ∷ filter p (take i xs)) (filter p (take i xs)))) d ≡ get_or xs i d) [
        | true ↦ kept_at xs i d (omega arith) t
        | false ↦ kept_at xs i d (omega arith) t
      ]

  -- one element more, which passes or doesn't
  pub count_kept : (xs : List X) (i : ℕ) (d : X) → i < length xs → p (get_or xs i d) ≡ true → length (filter p (take (i + 1) xs)) ≡ length (filter p (take i xs)) + 1
  count_kept [] i d l t = absurd (omega arith)
  count_kept (x ∷ xs) zero d l t = let e : length (cond (p x) (x ∷ []) []) ≡ 1 = ap (λ b. length (cond b (x ∷ []) [])) t in let z : length (filter p (take 1 (x ∷ xs))) ≡ length (cond (p x) (x ∷ []) []) = none xs in omega (arith, e, z)
    where
      none : (ys : List X) → length (filter p (take 1 (x ∷ ys))) ≡ length (cond (p x) (x ∷ []) [])
      none [] = refl
      none (y ∷ ys) = refl
  count_kept (x ∷ xs) (suc i) d l t =
      let r = count_kept xs i d (omega arith) t in
      let s : suc i + 1 ≡ suc (i + 1) = omega arith in
      ap (λ k. length (filter p (take k (x ∷ xs)))) s
      ∙ elim (p x) as (λ b. length (cond b (x ∷ filter p (take (i + 1) xs)) (filter p (take (i + 1) xs))) ≡ length (cond b (x ∷ filter p (take i xs)) (filter p (take i xs))) + 1) [ true ↦ omega (arith, r) | false ↦ r ]

  pub count_passed : (xs : List X) (i : ℕ) (d : X) → i < length xs → p (get_or xs i d) ≡ false → length (filter p (take (i + 1) xs)) ≡ length (filter p (take i xs))
  count_passed [] i d l f = absurd (omega arith)
  count_passed (x ∷ xs) zero d l f = none xs ∙ ap (λ b. length (cond b (x ∷ []) [])) f
    where
      none : (ys : List X) → length (filter p (take 1 (x ∷ ys))) ≡ length (cond (p x) (x ∷ []) [])
      none [] = refl
      none (y ∷ ys) = refl
  count_passed (x ∷ xs) (suc i) d l f =
      let r = count_passed xs i d (omega arith) f in
      let s : suc i + 1 ≡ suc (i + 1) = omega arith in
      ap (λ k. length (filter p (take k (x ∷ xs)))) s
      ∙ elim (p x) as (λ b. length (cond b (x ∷ filter p (take (i + 1) xs)) (filter p (take (i + 1) xs))) ≡ length (cond b (x ∷ filter p (take i xs)) (filter p (take i xs)))) [ true ↦ ap (λ n. suc n) r | false ↦ r ]

  pub count_whole : (xs : List X) (i : ℕ) → length xs ≤ i → length (filter p (take i xs)) ≡ length (filter p xs)
  count_whole xs i l = ap (λ ys. length (filter p ys)) (take_all i xs l)
