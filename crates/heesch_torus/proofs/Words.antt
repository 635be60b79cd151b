-- Words of numbers, one number more, and lists of numbers that are moved in place.
use Rattle.std.proofs.Common.{◌≡◌, ◌≢◌, sym, ap, ◌∙◌, ℕ, suc, ◌+◌, ◌*◌, ◌%◌, ◌^◌, ◌<◌, ◌≤◌, List, [], ◌∷◌, ◌++◌, map, length, take, drop, get_or, set, Bool, true, false, cond, ◌==◌, inl, inr, arith, bit_or}
use Rattle.std.specs.List.{count_by, refill}
use Rattle.std.specs.Int.{bit_at, w64}
use Rattle.std.proofs.lemmas.Bool.{cases_order}
use Rattle.std.proofs.lemmas.List.{append_assoc, length-append, length-map, length-take-le, map-append, take_more, take_all, take-append-drop}
use Rattle.std.proofs.lemmas.List.Sums.{count_by_more_yes, count_by_more_no, sum_by-append}
use Rattle.std.proofs.lemmas.Nat.Bits.{bit_at-zero, bit_at_set_same, bit_at_set_other}
use Rattle.std.proofs.Math.Seq.{drop-cons, drop-length, get_or-append_seam, set-append_seam, take-append_seam}
use Rattle.heesch_tiling.proofs.Steps.{append_none}
use Rattle.heesch_torus.specs.Stepping.{HasBits, HasTwice}

pub no_bits : HasBits [] 0
no_bits k = bit_at-zero k

is_number : (m n : ℕ) → m ≡ n → (m == n) ≡ true
is_number m n e = grind arith

not_number : (m n : ℕ) → m ≢ n → (m == n) ≡ false
not_number m n d = elim (cases_order m n) [
  | inl e ↦ absurd (d e)
  | inr o ↦ elim o [ inl l ↦ less m n l | inr l ↦ more m n l ]
]
  where
    less : (m n : ℕ) → m < n → (m == n) ≡ false
    less m n l = grind arith

    more : (m n : ℕ) → n < m → (m == n) ≡ false
    more m n l = grind arith

module _ (points : List ℕ) (i k word : ℕ) (less : i < length points) (at : get_or points i 0 ≡ k) (few : k < 64) (old : HasBits (take i points) word) where
  pub bits_more : bit_at word k ≡ 0 → HasBits (take (i + 1) points) (bit_or word (1 * 2 ^ k % 2 ^ 64))
  bits_more free j = elim (cases_order j k) [
    | inl same ↦
        let set : bit_at (bit_or word (1 * 2 ^ k % 2 ^ 64)) j ≡ 1 = ap (bit_at (bit_or word (1 * 2 ^ k % 2 ^ 64))) same ∙ bit_at_set_same w64 word k few in
        let before : bit_at word j ≡ count_by (λ p. p == j) (take i points) = old j in
        let none : bit_at word j ≡ 0 = ap (bit_at word) same ∙ free in
        let more = count_by_more_yes (λ p. p == j) points i 0 less (is_number (get_or points i 0) j (at ∙ sym same)) in
        omega (arith, set, before, none, more)
    | inr o ↦ other j (λ e. elim o [ inl l ↦ omega arith | inr l ↦ omega arith ])
  ]
    where
      other : (j : ℕ) → j ≢ k → bit_at (bit_or word (1 * 2 ^ k % 2 ^ 64)) j ≡ count_by (λ p. p == j) (take (i + 1) points)
      other j apart =
          let kept : bit_at (bit_or word (1 * 2 ^ k % 2 ^ 64)) j ≡ bit_at word j = bit_at_set_other w64 word k few j apart in
          let before : bit_at word j ≡ count_by (λ p. p == j) (take i points) = old j in
          let same = count_by_more_no (λ p. p == j) points i 0 less (not_number (get_or points i 0) j (λ e. apart (sym e ∙ at))) in
          omega (arith, kept, before, same)

  pub twice_more : bit_at word k ≡ 1 → HasTwice points
  twice_more set =
      let before : bit_at word k ≡ count_by (λ p. p == k) (take i points) = old k in
      let here : count_by (λ p. p == k) (take (i + 1) points) ≡ count_by (λ p. p == k) (take i points) + 1 = count_by_more_yes (λ p. p == k) points i 0 less (is_number (get_or points i 0) k at) in
      let most : count_by (λ p. p == k) (take (i + 1) points) ≤ count_by (λ p. p == k) points = count_begun (λ p. p == k) points (i + 1) in
      (k, omega (arith, before, here, most, set))
    where
      count_begun : (p : ℕ → Bool) (xs : List ℕ) (n : ℕ) → count_by p (take n xs) ≤ count_by p xs
      count_begun p xs n =
          let split : count_by p xs ≡ count_by p (take n xs) + count_by p (drop n xs) = ap (count_by p) (sym (take-append-drop n xs)) ∙ sum_by-append (λ x. cond (p x) 1 0) (take n xs) (drop n xs) in
          omega (arith, split)

-- ---- a list moved in place as far as the i-th number

module _ (f : ℕ → ℕ) (old : List ℕ) (i : ℕ) (now : List ℕ) (begun : now ≡ map f (take i old) ++ drop i old) where
  pub moving_long : i ≤ length old → length now ≡ length old
  moving_long few =
      let total : length (take i old) + length (drop i old) ≡ length old = sym (length-append (take i old) (drop i old)) ∙ ap length (take-append-drop i old) in
      let parts : length now ≡ length (map f (take i old)) + length (drop i old) = ap length begun ∙ length-append (map f (take i old)) (drop i old) in
      let same : length (map f (take i old)) ≡ length (take i old) = length-map (take i old) f in
      omega (arith, total, parts, same)

  module _ (less : i < length old) where
    moved_long : length (map f (take i old)) ≡ i
    moved_long = length-map (take i old) f ∙ length-take-le i old (omega arith)

    split : now ≡ map f (take i old) ++ get_or old i 0 ∷ drop (suc i) old
    split = begun ∙ ap (λ ys. map f (take i old) ++ ys) (drop-cons old i 0 less)

    pub not_moved_yet : get_or now i 0 ≡ get_or old i 0
    not_moved_yet = (λ n. get_or (split n) (sym moved_long n) 0) ∙ get_or-append_seam (map f (take i old)) (get_or old i 0) (drop (suc i) old) 0

    pub moved_more : (new : List ℕ) → new ≡ set now i (f (get_or now i 0)) → new ≡ map f (take (i + 1) old) ++ drop (i + 1) old
    moved_more new e =
        let next : suc i ≡ i + 1 = omega arith in
        e
        ∙ ap (λ y. set now i (f y)) not_moved_yet
        ∙ (λ n. set (split n) (sym moved_long n) (f (get_or old i 0)))
        ∙ set-append_seam (map f (take i old)) (get_or old i 0) (drop (suc i) old) (f (get_or old i 0))
        ∙ sym (append_assoc (map f (take i old)) (f (get_or old i 0) ∷ []) (drop (suc i) old))
        ∙ ap (λ xs. xs ++ drop (suc i) old) (sym (map-append f (take i old) (get_or old i 0 ∷ [])) ∙ ap (map f) (sym (take_more old i 0 less)))
        ∙ ap (λ m. map f (take (i + 1) old) ++ drop m old) next

  pub moved_all : i ≡ length old → now ≡ map f old
  moved_all last =
      begun
      ∙ (λ n. map f (take_all i old (omega (arith, last)) n) ++ drop (last n) old)
      ∙ ap (λ ys. map f old ++ ys) (drop-length old)
      ∙ append_none (map f old)

-- what is written over a whole list
pub written_over : (xs ys : List ℕ) → length ys ≡ length xs → refill (length xs) xs ys ≡ ys
written_over xs ys e = ap (λ n. take n (ys ++ drop (length ys) xs)) (sym e) ∙ take-append_seam ys (drop (length ys) xs)
