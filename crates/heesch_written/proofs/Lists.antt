-- What holds of each element of a list, by recursion.
use Rattle.std.proofs.Common.{List, [], ◌∷◌, ◌++◌, map}
use Rattle.std.specs.List.{AllByRecursion}

module _ {X : Type 0} (P : X → Type 0) where
  pub all_append : (xs ys : List X) → AllByRecursion P xs → AllByRecursion P ys → AllByRecursion P (xs ++ ys)
  all_append [] ys h k = k
  all_append (x ∷ xs) ys h k = (h.0, all_append xs ys h.1 k)

  pub all_weaker : (Q : X → Type 0) → ((x : X) → P x → Q x) → (xs : List X) → AllByRecursion P xs → AllByRecursion Q xs
  all_weaker Q f [] h = tt
  all_weaker Q f (x ∷ xs) h = (f x h.0, all_weaker Q f xs h.1)

  pub all_both : (Q : X → Type 0) → (xs : List X) → AllByRecursion P xs → AllByRecursion Q xs → AllByRecursion (λ x. P x × Q x) xs
  all_both Q [] h k = tt
  all_both Q (x ∷ xs) h k = ((h.0, k.0), all_both Q xs h.1 k.1)

  pub all_given : (Q : X → Type 0) → (xs : List X) → AllByRecursion (λ x. P x → Q x) xs → AllByRecursion P xs → AllByRecursion Q xs
  all_given Q [] h k = tt
  all_given Q (x ∷ xs) h k = (h.0 k.0, all_given Q xs h.1 k.1)

  pub all_map : {Y : Type 0} (f : Y → X) (ys : List Y) → AllByRecursion (λ y. P (f y)) ys → AllByRecursion P (map f ys)
  all_map f [] h = tt
  all_map f (y ∷ ys) h = (h.0, all_map f ys h.1)

  pub all_of_map : {Y : Type 0} (f : Y → X) (ys : List Y) → AllByRecursion P (map f ys) → AllByRecursion (λ y. P (f y)) ys
  all_of_map f [] h = tt
  all_of_map f (y ∷ ys) h = (h.0, all_of_map f ys h.1)
