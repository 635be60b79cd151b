-- Tests over lists and ranges.
use Rattle.std.proofs.Common.{◌≡◌, ℕ, zero, suc, ◌<◌, ◌≤◌, Bool, true, false, cond, ◌&&◌, ◌||◌, List, [], ◌∷◌, map, get_or, length, filter, All, ℤ, pos, negsuc, ◌≤ℤ◌, neg_ℤ, refl, sym, ap, arith, inl, inr}
use Rattle.std.proofs.lemmas.Int.{ints}
use Rattle.std.proofs.lemmas.Bool.{and_parts, or_cases, cases_order, true≢false}
use Rattle.std.specs.List.{list_any, list_all}
use Rattle.std.specs.Prelude.{IsTrue}
use Rattle.std.proofs.lemmas.List.Elements.{All-cons, All-nil}
use Rattle.heesch_grid.specs.Listing.{IsRising, is_rising}

-- every number below n passes
abbrev pub all_below : (ℕ → Bool) → ℕ → Bool
all_below t zero = true
all_below t (suc n) = t n && all_below t n

pub all_below_at : (t : ℕ → Bool) (n k : ℕ) → all_below t n ≡ true → k < n → t k ≡ true
all_below_at t zero k h l = absurd (omega arith)
all_below_at t (suc n) k h l =
    let both = and_parts (t n) (all_below t n) h in
    elim (cases_order k n) [
      | inl e ↦ rw e both.0
      | inr o ↦ elim o [ inl less ↦ all_below_at t n k both.1 less | inr more ↦ absurd (omega arith) ]
    ]

-- every integer from -n to n passes
abbrev pub all_within : ℕ → (ℤ → Bool) → Bool
all_within zero t = t (pos 0)
all_within (suc n) t = t (pos (suc n)) && (t (negsuc n) && all_within n t)

pub all_within_at : (n : ℕ) (t : ℤ → Bool) (z : ℤ) → all_within n t ≡ true → neg_ℤ (pos n) ≤ℤ z → z ≤ℤ pos n → t z ≡ true
all_within_at zero t z h low high = let e : z ≡ pos 0 = omega (arith, ints) in rw e h
all_within_at (suc n) t (pos m) h low high =
    let one = and_parts (t (pos (suc n))) (t (negsuc n) && all_within n t) h in
    let two = and_parts (t (negsuc n)) (all_within n t) one.1 in
    elim (cases_order m (suc n)) [
      | inl e ↦ rw e one.0
      | inr o ↦ elim o [ inl less ↦ all_within_at n t (pos m) two.1 (omega (arith, ints)) (omega (arith, ints)) | inr more ↦ absurd (omega (arith, ints)) ]
    ]
all_within_at (suc n) t (negsuc m) h low high =
    let one = and_parts (t (pos (suc n))) (t (negsuc n) && all_within n t) h in
    let two = and_parts (t (negsuc n)) (all_within n t) one.1 in
    elim (cases_order m n) [
      | inl e ↦ rw e two.0
      | inr o ↦ elim o [ inl less ↦ all_within_at n t (negsuc m) two.1 (omega (arith, ints)) (omega (arith, ints)) | inr more ↦ absurd (omega (arith, ints)) ]
    ]

-- an item that passes the one test, where all pass the other
pub found : {X : Type 0} (p t : X → Bool) (xs : List X) → list_any p xs ≡ true → list_all t xs ≡ true → (x : X) × (p x ≡ true) × (t x ≡ true)
found p t [] h a = absurd (true≢false (sym h))
found p t (x ∷ xs) h a =
    let both = and_parts (t x) (list_all t xs) a in
    elim (or_cases (p x) (list_any p xs) h) [ inl e ↦ (x, e, both.0) | inr o ↦ found p t xs o both.1 ]

pub all_at : {X : Type 0} (t : X → Bool) (xs : List X) (k : ℕ) (d : X) → list_all t xs ≡ true → k < length xs → t (get_or xs k d) ≡ true
all_at t [] k d a l = absurd (omega arith)
all_at t (x ∷ xs) zero d a l = (and_parts (t x) (list_all t xs) a).0
all_at t (x ∷ xs) (suc k) d a l = all_at t xs k d (and_parts (t x) (list_all t xs) a).1 (omega arith)

pub filter_some : {X : Type 0} (p : X → Bool) (xs : List X) → 1 ≤ length (filter p xs) → list_any p xs ≡ true
filter_some p [] h = absurd (omega arith)
filter_some p (x ∷ xs) h =
    elim (p x) as (λ b. 1 ≤ length (cond b (x ∷ filter p xs) (filter p xs)) → (b || list_any p xs) ≡ true) [ true ↦ λ k. refl | false ↦ λ k. filter_some p xs k ] h

pub filter_like : {X : Type 0} (p q : X → Bool) (xs : List X) → ((x : X) → p x ≡ q x) → filter p xs ≡ filter q xs
filter_like p q [] e = refl
filter_like p q (x ∷ xs) e = rw (e x) (ap (λ ys. cond (q x) (x ∷ ys) ys) (filter_like p q xs e))

pub length-filter_map : {X Y : Type 0} (p : Y → Bool) (f : X → Y) (xs : List X) → length (filter p (map f xs)) ≡ length (filter (λ x. p (f x)) xs)
length-filter_map p f [] = refl
length-filter_map p f (x ∷ xs) =
    elim (p (f x)) as (λ b. length (cond b (f x ∷ filter p (map f xs)) (filter p (map f xs))) ≡ length (cond b (x ∷ filter (λ x. p (f x)) xs) (filter (λ x. p (f x)) xs))) [ true ↦ ap suc (length-filter_map p f xs) | false ↦ length-filter_map p f xs ]

pub any_like : {X : Type 0} (p q : X → Bool) (xs : List X) → ((x : X) → p x ≡ q x) → list_any p xs ≡ list_any q xs
any_like p q [] e = refl
any_like p q (x ∷ xs) e = rw (e x) (ap (λ b. q x || b) (any_like p q xs e))

pub any_map : {X Y : Type 0} (p : Y → Bool) (f : X → Y) (xs : List X) → list_any p (map f xs) ≡ list_any (λ x. p (f x)) xs
any_map p f [] = refl
any_map p f (x ∷ xs) = ap (λ b. p (f x) || b) (any_map p f xs)

-- a test that passes at each element
pub All-by_test : {X : Type 0} (p : X → Bool) (xs : List X) → list_all p xs ≡ true → All (λ x. IsTrue (p x)) xs
All-by_test p [] t = All-nil (λ x. IsTrue (p x))
All-by_test p (x ∷ xs) t =
    let both : (p x ≡ true) × (list_all p xs ≡ true) = and_parts (p x) (list_all p xs) t in
    All-cons (λ x. IsTrue (p x)) x xs both.0 (All-by_test p xs both.1)

pub rising_by_test : {X : Type 0} (before : X → X → Bool) (xs : List X) → is_rising before xs ≡ true → IsRising before xs
rising_by_test before [] t = tt
rising_by_test before (x ∷ xs) t =
    let both : (list_all (before x) xs ≡ true) × (is_rising before xs ≡ true) = and_parts (list_all (before x) xs) (is_rising before xs) t in
    (All-by_test (before x) xs both.0, rising_by_test before xs both.1)
