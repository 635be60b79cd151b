-- Pieces of one length, joined end to end.
use Rattle.std.proofs.Common.{◌≡◌, sym, ap, ◌∙◌, ℕ, ◌+◌, ◌*◌, ◌<◌, List, [], ◌∷◌, length, get_or, take, flat_map, arith}
use Rattle.std.proofs.lemmas.List.{length-append, length-take-le}
use Rattle.std.proofs.lemmas.List.Concat.{get_or-flat_map}

module _ {X A : Type 0} (f : X → List A) (n : ℕ) (even : (x : X) → length (f x) ≡ n) where
  pub length_even : (xs : List X) → length (flat_map f xs) ≡ length xs * n
  length_even [] = omega arith
  length_even (x ∷ xs) =
      let one = even x in
      let rest = length_even xs in
      let both = length-append (f x) (flat_map f xs) in
      let split : (1 + length xs) * n ≡ n + length xs * n = omega arith in
      omega arith

  -- the place of an element of a piece
  pub at_even : (xs : List X) (q t : ℕ) (e : X) (d : A) → q < length xs → t < n → get_or (flat_map f xs) (q * n + t) d ≡ get_or (f (get_or xs q e)) t d
  at_even xs q t e d l m =
      let long = length_even (take q xs) in
      let front : length (take q xs) ≡ q = length-take-le q xs (omega arith) in
      let before : length (flat_map f (take q xs)) ≡ q * n = long ∙ ap (λ k. k * n) front in
      let size = even (get_or xs q e) in
      ap (λ k. get_or (flat_map f xs) (k + t) d) (sym before) ∙ get_or-flat_map f xs q t e d l (omega arith)
