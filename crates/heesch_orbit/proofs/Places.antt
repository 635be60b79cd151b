-- What holds of each place so far.
use Rattle.std.proofs.Common.{◌≡◌, subst, ℕ, ◌+◌, ◌<◌, ◌≤◌, List, length, get_or, inl, inr, arith, Contains}
use Rattle.std.proofs.lemmas.Bool.{cases_lt}
use Rattle.std.proofs.lemmas.List.{get_or_default}

module _ {X : Type 0} (P : X → Type 0) (xs : List X) where
  -- of one more
  pub each_more : (i : ℕ) (o : X) → i < length xs → ((k : ℕ) (d : X) → k < i → P (get_or xs k d)) → P (get_or xs i o) → (k : ℕ) (d : X) → k < i + 1 → P (get_or xs k d)
  each_more i o less old here k d l =
      elim (cases_lt k i) [
        | inl h ↦ old k d h
        | inr h ↦ let is : i ≡ k = omega arith in subst (λ n. P (get_or xs n d)) is (subst P (get_or_default xs i o d less) here)
      ]

  -- of all
  pub each_all : (i : ℕ) → length xs ≤ i → ((k : ℕ) (d : X) → k < i → P (get_or xs k d)) → (x : X) → Contains xs x → P x
  each_all i done old x (k, l, e) = subst P e (old k x (omega arith))

  -- the element at an index is a member
  pub member_at : (i : ℕ) (o : X) → i < length xs → Contains xs (get_or xs i o)
  member_at i o less = (i, less, get_or_default xs i (get_or xs i o) o less)
