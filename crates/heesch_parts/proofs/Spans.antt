-- The spans of shares cover a list once.
use Rattle.std.proofs.Common.{◌≡◌, ℕ, zero, suc, ◌+◌, ◌-◌, ◌*◌, ◌/◌, ◌<◌, ◌≤◌, inl, inr, List, [], ◌∷◌, ◌++◌, length, map, take, drop, sym, ap, subst, ◌∙◌, arith}
use Rattle.std.proofs.Math.Nat.{div-mul-le_self, mul-div_cancel_left, mul-le-mul_right, zero-div}
use Rattle.std.proofs.lemmas.Nat.{le-div}
use Rattle.std.proofs.lemmas.Bool.{cases_lt}
use Rattle.std.specs.List.{flat_map, range_with_len}
use Rattle.std.proofs.lemmas.List.{append-nil, take-take, drop-take, take-append-drop, take_all}
use Rattle.std.proofs.lemmas.List.Concat.{flat_map-append}
use Rattle.std.proofs.lemmas.List.FromFn.{map-range_with_len_more}
use Rattle.heesch_parts.specs.Spans.{bound, span_of, items_at, shares_of_list, HasPlace, FollowEachOther}

quotients : (a b k : ℕ) → 1 ≤ k → a ≤ b → a / k ≤ b / k
quotients a b k some le = le-div (a / k) b k (omega (arith, some)) (omega (arith, le, div-mul-le_self a k))

-- later shares end later
pub bounds_rise : (length i j k : ℕ) → 1 ≤ k → i ≤ j → bound length i k ≤ bound length j k
bounds_rise length i j k some le = quotients (i * length) (j * length) k some (mul-le-mul_right length le)

pub first_bound : (length k : ℕ) → bound length 0 k ≡ 0
first_bound length k = let none : 0 * length ≡ 0 = omega arith in ap (λ (n : ℕ). n / k) none ∙ zero-div k

pub last_bound : (length k : ℕ) → 1 ≤ k → bound length k k ≡ length
last_bound length k some = mul-div_cancel_left length (omega (arith, some))

pub spans_follow : (length k : ℕ) → 1 ≤ k → FollowEachOther length k
spans_follow length k some = record {
  begins = first_bound length k;
  follows = λ i first less. let same : i + 1 - 1 ≡ i = omega arith in ap (λ (n : ℕ). bound length n k) same;
  ends = last_bound length k some;
}

-- one of the shares up to this one has the place
some_share : (length k place i : ℕ) → 1 ≤ k → i ≤ k → place < bound length i k → (j : ℕ) × HasPlace length k place j
some_share length k place zero some last below = absurd (omega (arith, below, first_bound length k))
some_share length k place (suc i) some last below = elim (cases_lt place (bound length i k)) [
  | inl less ↦ some_share length k place i some (omega (arith, last)) less
  | inr more ↦
      let same : suc i - 1 ≡ i = omega arith in (
        suc i,
        record {
          first = omega arith;
          last = last;
          from = subst (λ (n : ℕ). bound length n k ≤ place) (sym same) more;
          until = below;
        },
      )
]

-- an earlier share doesn't have it too
not_earlier : (length k place i j : ℕ) → HasPlace length k place i → HasPlace length k place j → i < j → ⊥
not_earlier length k place i j a b less =
    let rises = bounds_rise length i (j - 1) k (omega (arith, a.first, a.last)) (omega (arith, less)) in
    omega (arith, rises, a.until, b.from)

pub cover_once : (length k place : ℕ) → 1 ≤ k → place < length → (i : ℕ) × HasPlace length k place i × ((j : ℕ) → HasPlace length k place j → j ≡ i)
cover_once length k place some less =
    let s = some_share length k place k some (omega arith) (omega (arith, less, last_bound length k some)) in
    (s.0, s.1, λ j other. tight j s.0 (not_earlier length k place j s.0 other s.1) (not_earlier length k place s.0 j s.1 other))
  where
    tight : (n m : ℕ) → (n < m → ⊥) → (m < n → ⊥) → n ≡ m
    tight n m below above = grind (arith, below, above)

pub stay_within : (length k place i : ℕ) → HasPlace length k place i → place < length
stay_within length k place i h =
    let some : 1 ≤ k = omega (arith, h.first, h.last) in
    omega (arith, h.until, bounds_rise length i k k some h.last, last_bound length k some)

-- ---- a list and its shares

cut : {A : Type 0} (a m : ℕ) (xs : List A) → take a xs ++ take m (drop a xs) ≡ take (a + m) xs
cut {A = A} a m xs =
    let le : a ≤ a + m = omega arith in
    ap (λ (x : List A). x ++ take m (drop a xs)) (sym (take-take a (a + m) xs le)) ∙ ap (λ (x : List A). take a (take (a + m) xs) ++ x) (sym (drop-take a m xs)) ∙ take-append-drop a (take (a + m) xs)

concat_push : {A : Type 0} (xss : List (List A)) (xs : List A) → flat_map (λ (x : List A). x) (xss ++ xs ∷ []) ≡ flat_map (λ (x : List A). x) xss ++ xs
concat_push {A = A} xss xs = flat_map-append (λ (x : List A). x) xss (xs ∷ []) ∙ ap (λ (x : List A). flat_map (λ (y : List A). y) xss ++ x) (append-nil xs)

-- the first shares are a front of the list
first_shares : {A : Type 0} (k n : ℕ) (xs : List A) → 1 ≤ k → flat_map (λ (x : List A). x) (map (λ i. items_at (span_of (length xs) i k) xs) (range_with_len 1 n)) ≡ take (bound (length xs) n k) xs
first_shares {A = A} k zero xs some = sym (ap (λ (m : ℕ). take m xs) (first_bound (length xs) k))
first_shares {A = A} k (suc n) xs some =
    let one : suc n ≡ n + 1 = omega arith in
    let share = λ (i : ℕ). items_at (span_of (length xs) i k) xs in
    let more : map share (range_with_len 1 (suc n)) ≡ map share (range_with_len 1 n) ++ share (suc n) ∷ [] =
    ap (λ (m : ℕ). map share (range_with_len 1 m)) one ∙ map-range_with_len_more share 1 n (suc n) (omega arith) in
    let before : suc n - 1 ≡ n = omega arith in
    let rises = bounds_rise (length xs) n (suc n) k some (omega arith) in
    let sum : bound (length xs) n k + (bound (length xs) (suc n) k - bound (length xs) n k) ≡ bound (length xs) (suc n) k = omega (arith, rises) in
    let last : share (suc n) ≡ take (bound (length xs) (suc n) k - bound (length xs) n k) (drop (bound (length xs) n k) xs) =
    ap (λ (m : ℕ). take (bound (length xs) (suc n) k - bound (length xs) m k) (drop (bound (length xs) m k) xs)) before in
    ap (λ (xss : List (List A)). flat_map (λ (x : List A). x) xss) more ∙ concat_push (map share (range_with_len 1 n)) (share (suc n))
    ∙ ap (λ (x : List A). x ++ share (suc n)) (first_shares k n xs some)
    ∙ ap (λ (x : List A). take (bound (length xs) n k) xs ++ x) last
    ∙ cut (bound (length xs) n k) (bound (length xs) (suc n) k - bound (length xs) n k) xs
    ∙ ap (λ (m : ℕ). take m xs) sum

pub shares_are_the_list : {A : Type 0} (k : ℕ) (xs : List A) → 1 ≤ k → flat_map (λ (x : List A). x) (shares_of_list k xs) ≡ xs
shares_are_the_list k xs some = first_shares k k xs some ∙ ap (λ (m : ℕ). take m xs) (last_bound (length xs) k some) ∙ take_all (length xs) xs (omega arith)
