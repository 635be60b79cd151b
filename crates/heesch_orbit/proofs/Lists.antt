-- The elements of a list with one more at its end.
use Rattle.std.proofs.Common.{◌≡◌, refl, sym, ap, ◌∙◌, ℕ, zero, suc, ◌<◌, not-suc-le-zero, le_of_suc-le-suc, List, [], ◌∷◌, ◌++◌, length, Option, Some, None, ◌⊎◌, inl, inr, arith}
use Rattle.std.specs.Prelude.{unwrap_or}
use Rattle.std.specs.List.{slice_get}
use Rattle.std.proofs.lemmas.Bool.{cases_lt}
use Rattle.std.proofs.lemmas.Option.{slice_get_within}

module _ {X : Type 0} where
  pub get_left : (xs ys : List X) (k : ℕ) → k < length xs → slice_get (xs ++ ys) k ≡ slice_get xs k
  get_left [] ys k l = absurd (not-suc-le-zero l)
  get_left (x ∷ xs) ys zero l = refl
  get_left (x ∷ xs) ys (suc k) l = get_left xs ys k (le_of_suc-le-suc l)

  pub get_last : (xs : List X) (x : X) → slice_get (xs ++ x ∷ []) (length xs) ≡ Some x
  get_last [] x = refl
  get_last (y ∷ xs) x = get_last xs x

  pub one_value : (o : Option X) (x y : X) → o ≡ Some x → o ≡ Some y → x ≡ y
  one_value o x y e f = ap (λ p. unwrap_or p x) (sym e ∙ f)

  none_past : (xs : List X) (x y : X) (k : ℕ) → length xs < k → slice_get (xs ++ x ∷ []) k ≡ Some y → ⊥
  none_past [] x y zero l e = not-suc-le-zero l
  none_past [] x y (suc k) l e = never e
    where
      never : None ≡ Some y → ⊥
      never e = cc
  none_past (z ∷ xs) x y zero l e = not-suc-le-zero l
  none_past (z ∷ xs) x y (suc k) l e = none_past xs x y k (le_of_suc-le-suc l) e

  -- an element is one of the old, or the new one
  pub get_cases : (xs : List X) (x y : X) (k : ℕ) → slice_get (xs ++ x ∷ []) k ≡ Some y → ((k < length xs) × (slice_get xs k ≡ Some y)) ⊎ ((k ≡ length xs) × (y ≡ x))
  get_cases xs x y k e =
      elim (cases_lt k (length xs)) [
        | inl l ↦ inl (l, sym (get_left xs (x ∷ []) k l) ∙ e)
        | inr m ↦ elim (cases_lt (length xs) k) [
          | inl past ↦ absurd (none_past xs x y k past e)
          | inr n ↦ let is : k ≡ length xs = omega (arith, m, n) in inr (is, one_value (slice_get (xs ++ x ∷ []) k) y x e (ap (slice_get (xs ++ x ∷ [])) is ∙ get_last xs x))
        ]
      ]

  -- an old element stands where it stood
  pub get_still : (xs ys : List X) (y : X) (k : ℕ) → slice_get xs k ≡ Some y → slice_get (xs ++ ys) k ≡ Some y
  get_still xs ys y k e = get_left xs ys k (slice_get_within xs k y e) ∙ e
