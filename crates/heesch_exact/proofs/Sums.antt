-- Sums over lists, and lists that are cut.
use Rattle.std.proofs.Common.{◌≡◌, refl, sym, ap, ◌∙◌, ℕ, zero, suc, ◌+◌, ◌<◌, ◌≤◌, Bool, true, false, cond, List, [], ◌∷◌, ◌++◌, length, get_or, filter, All, inl, inr, arith}
use Rattle.std.specs.List.{sum_by, count_by, Contains}
use Rattle.std.proofs.lemmas.Bool.{cases_Bool, cases_lt, false≢true}
use Rattle.std.proofs.lemmas.List.Sums.{sum_by-cons, sum_by_more, sum_by-take-le}
use Rattle.std.proofs.lemmas.List.Elements.{All-cons, All-head, All-tail}

-- an element at which the function isn't 0, and what stands before and behind it
pub some_counted : (f : ℕ → ℕ) (xs : List ℕ) → 0 < sum_by f xs → (a : List ℕ) × (i : ℕ) × (b : List ℕ) × (xs ≡ a ++ (i ∷ b)) × (0 < f i)
some_counted f [] h = absurd (omega arith)
some_counted f (x ∷ xs) h =
    elim (cases_lt 0 (f x)) [
      | inl l ↦ ([], x, xs, refl, l)
      | inr l ↦
          let s = sum_by-cons f x xs in
          let r = some_counted f xs (omega (arith, s)) in
          (x ∷ r.0, r.1, r.2, ap (λ ys. x ∷ ys) r.3, r.4)
    ]

pub all_left : (P : ℕ → Type 0) (xs ys : List ℕ) → All P (xs ++ ys) → All P xs
all_left P [] ys h = λ k d l. absurd (omega arith)
all_left P (x ∷ xs) ys h = All-cons P x xs (All-head P x (xs ++ ys) h) (all_left P xs ys (All-tail P x (xs ++ ys) h))

pub all_right : (P : ℕ → Type 0) (xs ys : List ℕ) → All P (xs ++ ys) → All P ys
all_right P [] ys h = h
all_right P (x ∷ xs) ys h = all_right P xs ys (All-tail P x (xs ++ ys) h)

pub contains_filter : (p : ℕ → Bool) (xs : List ℕ) (x : ℕ) → Contains xs x → p x ≡ true → Contains (filter p xs) x
contains_filter p [] x h e = absurd (omega (arith, h.1))
contains_filter p (y ∷ ys) x (zero, l, is) e = here (p y) y (filter p ys) x (ap p is ∙ e) is
  where
    here : (b : Bool) (y : ℕ) (zs : List ℕ) (x : ℕ) → b ≡ true → y ≡ x → Contains (cond b (y ∷ zs) zs) x
    here true y zs x e is = (zero, omega arith, is)
    here false y zs x e is = absurd (false≢true e)
contains_filter p (y ∷ ys) x (suc k, l, is) e = kept (p y) y (filter p ys) x (contains_filter p ys x (k, omega arith, is) e)
  where
    kept : (b : Bool) (y : ℕ) (zs : List ℕ) (x : ℕ) → Contains zs x → Contains (cond b (y ∷ zs) zs) x
    kept true y zs x h = (suc h.0, omega (arith, h.1), h.2)
    kept false y zs x h = h

pub sum_zero : (f : ℕ → ℕ) (xs : List ℕ) → All (λ x. f x ≡ 0) xs → sum_by f xs ≡ 0
sum_zero f [] h = refl
sum_zero f (x ∷ xs) h =
    let s = sum_by-cons f x xs in
    let a = All-head (λ y. f y ≡ 0) x xs h in
    let r = sum_zero f xs (All-tail (λ y. f y ≡ 0) x xs h) in
    omega (arith, s, a, r)

pub count_is_sum : (p : ℕ → Bool) (f : ℕ → ℕ) → ((x : ℕ) → cond (p x) 1 0 ≡ f x) → (xs : List ℕ) → count_by p xs ≡ sum_by f xs
count_is_sum p f e [] = refl
count_is_sum p f e (x ∷ xs) =
    sum_by-cons (λ y. cond (p y) 1 0) x xs ∙ ap (λ n. n + count_by p xs) (e x) ∙ ap (λ n. f x + n) (count_is_sum p f e xs) ∙ sym (sum_by-cons f x xs)

-- two elements beside each other count together
pub two_counted : (f : ℕ → ℕ) (xs : List ℕ) (k : ℕ) → k + 1 < length xs → f (get_or xs k 0) + f (get_or xs (k + 1) 0) ≤ sum_by f xs
two_counted f xs k l =
    let a = sum_by_more f xs k 0 (omega arith) in
    let b = sum_by_more f xs (k + 1) 0 l in
    let c = sum_by-take-le f xs (k + 1 + 1) in
    omega (arith, a, b, c)

-- where no kept element is counted, those kept and the sum are no more than the elements
pub kept_and_counted : (p : ℕ → Bool) (f : ℕ → ℕ) → ((x : ℕ) → f x ≤ 1) → ((x : ℕ) → p x ≡ true → f x ≡ 0) → (xs : List ℕ) → length (filter p xs) + sum_by f xs ≤ length xs
kept_and_counted p f most none [] = omega arith
kept_and_counted p f most none (x ∷ xs) =
    elim (cases_Bool (p x)) [
      | inl t ↦
          let s = sum_by-cons f x xs in
          let r = kept_and_counted p f most none xs in
          let e : length (cond (p x) (x ∷ filter p xs) (filter p xs)) ≡ length (filter p xs) + 1 = ap (λ b. length (cond b (x ∷ filter p xs) (filter p xs))) t ∙ one (length (filter p xs)) in
          omega (arith, s, r, e, none x t)
      | inr t ↦
          let s = sum_by-cons f x xs in
          let r = kept_and_counted p f most none xs in
          let e : length (cond (p x) (x ∷ filter p xs) (filter p xs)) ≡ length (filter p xs) = ap (λ b. length (cond b (x ∷ filter p xs) (filter p xs))) t in
          omega (arith, s, r, e, most x)
    ]
  where
    one : (n : ℕ) → suc n ≡ n + 1
    one n = omega arith
