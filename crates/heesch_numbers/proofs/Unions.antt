-- How many elements pass one of some tests.
use Rattle.std.proofs.Common.{◌≡◌, ap, ◌∙◌, ℕ, ◌+◌, ◌≤◌, List, [], ◌∷◌, filter, length, Bool, true, false, cond, inl, inr, arith, Contains, zero-le}
use Rattle.std.specs.Prelude.{sum_by}
use Rattle.std.proofs.lemmas.Bool.{cases_Bool}
use Rattle.std.proofs.lemmas.List.Sums.{sum_by-cons, get_or-le-sum_by}

abbrev truth : Bool → ℕ
truth b = cond b 1 0

length_kept : {X : Type 0} (b : Bool) (x : X) (xs : List X) → length (cond b (x ∷ xs) xs) ≡ truth b + length xs
length_kept true x xs = omega arith
length_kept false x xs = omega arith

module _ {C X : Type 0} (q : C → X → Bool) (p : X → Bool) (cs : List C) where
  abbrev passing : List X → C → ℕ
  passing xs c = length (filter (q c) xs)

  abbrev one : X → C → ℕ
  one x c = truth (q c x)

  split : (x : X) (xs : List X) (ds : List C) → sum_by (passing (x ∷ xs)) ds ≡ sum_by (one x) ds + sum_by (passing xs) ds
  split x xs [] = omega arith
  split x xs (d ∷ ds) =
      let a = sum_by-cons (passing (x ∷ xs)) d ds in
      let b = sum_by-cons (one x) d ds in
      let c = sum_by-cons (passing xs) d ds in
      let here : passing (x ∷ xs) d ≡ one x d + passing xs d = length_kept (q d x) x (filter (q d) xs) in
      let rest = split x xs ds in
      omega (arith, a, b, c, here, rest)

  some_passes : (x : X) → (c : C) × Contains cs c × (q c x ≡ true) → 1 ≤ sum_by (one x) cs
  some_passes x (c, m, t) =
      let le = get_or-le-sum_by (one x) cs m.0 c m.1 in
      let is = ap (one x) m.2 ∙ ap truth t in
      omega (arith, le, is)

  -- where each element that passes p passes one of the tests, no more pass than all of these let through
  pub length-filter_any : ((x : X) → p x ≡ true → (c : C) × Contains cs c × (q c x ≡ true)) → (xs : List X) → length (filter p xs) ≤ sum_by (passing xs) cs
  length-filter_any h [] = zero-le
  length-filter_any h (x ∷ xs) =
      let rest = length-filter_any h xs in
      let s = split x xs cs in
      let kept : length (filter p (x ∷ xs)) ≡ truth (p x) + length (filter p xs) = length_kept (p x) x (filter p xs) in
      elim (cases_Bool (p x)) [
        | inl t ↦ let some = some_passes x (h x t) in let is = ap truth t in omega (arith, rest, s, kept, some, is)
        | inr f ↦ let is = ap truth f in omega (arith, rest, s, kept, is)
      ]
