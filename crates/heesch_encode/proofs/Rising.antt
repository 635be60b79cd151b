-- Rising lists, sorted lists whose repeats were dropped, and filters.
use Rattle.std.proofs.Common.{◌≡◌, refl, sym, ap, subst, ◌∙◌, ℕ, zero, suc, ◌+◌, ◌<◌, ◌≤◌, List, [], ◌∷◌, ◌++◌, map, filter, length, get_or, take, drop, Bool, true, false, cond, ◌&&◌, inl, inr, arith, All, Contains, IsPermutation, IsSorted, ltb-true, le-ltb}
use Rattle.std.specs.Prelude.{IsTrue, nat_lt, flat_map}
use Rattle.std.specs.declared.cmp.Ordering.{Ordering}
use Rattle.std.specs.declared.cmp.Ordering.TheVariants.{Less}
use Rattle.std.specs.List.{AllByRecursion, dedup}
use Rattle.std.specs.List.Sorted.{IsStrictlySortedBy, IsNonDecreasingBy}
use Rattle.std.specs.Ordering.{eq_by_cmp}
use Rattle.std.specs.Cmp.{IsTotalOrder, IsEquivalence}
use Rattle.std.proofs.lemmas.List.{take_more, take-append-drop, append-nil, append_assoc}
use Rattle.std.proofs.lemmas.List.Concat.{flat_map-append}
use Rattle.std.proofs.lemmas.List.Elements.{All-cons, All-nil, All-contains, All-map, filter_more}
use Rattle.std.proofs.lemmas.List.Kept.{Contains-dedup, Contains-from_dedup, IsStrictlySortedBy-dedup}
use Rattle.std.proofs.lemmas.List.Sorted.{Contains-permutation, IsPermutation-sym}
use Rattle.std.proofs.lemmas.Bool.{cases_order}
use Rattle.heesch_grid.specs.Listing.{IsRising, ListsExactly}
use Rattle.heesch_grid.proofs.ListFacts.{member_here, member_there, no_member, All-from_members}

-- ---- numbers

pub nat_lt-irreflexive : (n : ℕ) → nat_lt n n ≡ false
nat_lt-irreflexive n = le-ltb n n (omega arith)

pub nat_lt-asymmetric : (m n : ℕ) → nat_lt m n ≡ true → nat_lt n m ≡ false
nat_lt-asymmetric m n t = let l = ltb-true m n t in le-ltb n m (omega arith)

-- an earlier number is below a later one
pub rising_at : (xs : List ℕ) → IsRising nat_lt xs → (i j d : ℕ) → i < j → j < length xs → get_or xs i d < get_or xs j d
rising_at [] r i j d l m = absurd (omega arith)
rising_at (x ∷ xs) r i zero d l m = absurd (omega arith)
rising_at (x ∷ xs) r zero (suc j) d l m = ltb-true x (get_or xs j d) (r.0 j d (omega arith))
rising_at (x ∷ xs) r (suc i) (suc j) d l m = rising_at xs r.1 i j d (omega arith) (omega arith)

pub never_falls : (xs : List ℕ) → IsRising nat_lt xs → IsNonDecreasingBy (λ (n : ℕ). n) xs
never_falls xs r i j d le l =
    elim (cases_order i j) [
      | inl e ↦ subst (λ k. get_or xs i d ≤ get_or xs k d) e (omega arith)
      | inr o ↦ elim o [ inl less ↦ let h = rising_at xs r i j d less l in omega arith | inr more ↦ absurd (omega arith) ]
    ]

module _ {X : Type 0} where
  -- the images under a map that keeps the order
  pub rising_map : {Y : Type 0} (before : X → X → Bool) (after : Y → Y → Bool) (f : X → Y) → ((x y : X) → before x y ≡ true → after (f x) (f y) ≡ true) → (xs : List X) → IsRising before xs → IsRising after (map f xs)
  rising_map before after f keeps [] r = tt
  rising_map before after f keeps (x ∷ xs) r =
      (All-map (λ y. IsTrue (after (f x) y)) f xs (All-from_members (λ y. IsTrue (after (f x) (f y))) xs (λ y m. keeps x y (All-contains (λ y. IsTrue (before x y)) xs y r.0 m))), rising_map before after f keeps xs r.1)

  -- two rising lists, each element of the first before each of the second
  pub rising_append : (before : X → X → Bool) (xs ys : List X) → IsRising before xs → IsRising before ys → ((x y : X) → Contains xs x → Contains ys y → before x y ≡ true) → IsRising before (xs ++ ys)
  rising_append before [] ys r s h = s
  rising_append before (x ∷ xs) ys r s h = (
    all_append (λ y. IsTrue (before x y)) xs r.0 (λ y m. h x y (member_here x xs) m),
    rising_append before xs ys r.1 s (λ a b m n. h a b (member_there x xs a m) n),
  )
    where
      all_append : (P : X → Type 0) (zs : List X) → All P zs → ((y : X) → Contains ys y → P y) → All P (zs ++ ys)
      all_append P [] a f = All-from_members P ys f
      all_append P (z ∷ zs) a f = All-cons P z (zs ++ ys) (a 0 z (omega arith)) (all_append P zs (λ k d l. a (suc k) d (omega arith)) f)

  rising_take : (before : X → X → Bool) (n : ℕ) (xs : List X) → IsRising before xs → IsRising before (take n xs)
  rising_take before zero xs r = tt
  rising_take before (suc n) [] r = tt
  rising_take before (suc n) (x ∷ xs) r = (All-from_members (λ y. IsTrue (before x y)) (take n xs) (λ y m. All-contains (λ y. IsTrue (before x y)) xs y r.0 (member_take n xs y m)), rising_take before n xs r.1)
    where
      member_take : (n : ℕ) (xs : List X) (y : X) → Contains (take n xs) y → Contains xs y
      member_take zero xs y m = absurd (no_member y m)
      member_take (suc n) [] y m = absurd (no_member y m)
      member_take (suc n) (x ∷ xs) y (zero, l, e) = (zero, omega arith, e)
      member_take (suc n) (x ∷ xs) y (suc k, l, e) = let r = member_take n xs y (k, omega arith, e) in member_there x xs y r

  rising_drop : (before : X → X → Bool) (n : ℕ) (xs : List X) → IsRising before xs → IsRising before (drop n xs)
  rising_drop before zero xs r = r
  rising_drop before (suc n) [] r = tt
  rising_drop before (suc n) (x ∷ xs) r = rising_drop before n xs r.1

  -- both parts of a rising list
  pub rising_parts : (before : X → X → Bool) (n : ℕ) (xs : List X) → IsRising before xs → IsRising before (take n xs) × IsRising before (drop n xs)
  rising_parts before n xs r = (rising_take before n xs r, rising_drop before n xs r)

  -- ---- filters

  -- one filter after another, where a test says both
  pub filter_both : (p q t : X → Bool) (xs : List X) → ((x : X) → Contains xs x → t x ≡ (p x && q x)) → filter q (filter p xs) ≡ filter t xs
  filter_both p q t [] e = refl
  filter_both p q t (x ∷ xs) e =
      let rest : filter q (filter p xs) ≡ filter t xs = filter_both p q t xs (λ y m. e y (member_there x xs y m)) in
      elim (p x) as (λ b. t x ≡ (b && q x) → filter q (cond b (x ∷ filter p xs) (filter p xs)) ≡ cond (t x) (x ∷ filter t xs) (filter t xs)) [
        | true ↦ λ h. ap (λ zs. cond (q x) (x ∷ zs) zs) rest ∙ ap (λ b. cond b (x ∷ filter t xs) (filter t xs)) (sym h)
        | false ↦ λ h. rest ∙ ap (λ b. cond b (x ∷ filter t xs) (filter t xs)) (sym h)
      ] (e x (member_here x xs))

  -- one element more, which passes or doesn't
  pub filter_keeps : (p : X → Bool) (old now xs : List X) (i : ℕ) (x : X) → i < length xs → get_or xs i x ≡ x → p x ≡ true → now ≡ old ++ filter p (take i xs) → now ++ x ∷ [] ≡ old ++ filter p (take (i + 1) xs)
  filter_keeps p old now xs i x l at t is =
      ap (λ zs. zs ++ x ∷ []) is ∙ append_assoc old (filter p (take i xs)) (x ∷ [])
      ∙ ap (λ zs. old ++ zs) (ap (λ zs. filter p (take i xs) ++ zs) (ap (λ b. cond b (x ∷ []) []) (sym t) ∙ ap (λ z. cond (p z) (z ∷ []) []) (sym at)) ∙ sym (filter_more p xs i x l))

  pub filter_skips : (p : X → Bool) (old now xs : List X) (i : ℕ) (x : X) → i < length xs → get_or xs i x ≡ x → p x ≡ false → now ≡ old ++ filter p (take i xs) → now ≡ old ++ filter p (take (i + 1) xs)
  filter_skips p old now xs i x l at f is =
      is ∙ ap (λ zs. old ++ zs) (sym (append-nil (filter p (take i xs))) ∙ ap (λ zs. filter p (take i xs) ++ zs) (ap (λ b. cond b (x ∷ []) []) (sym f) ∙ ap (λ z. cond (p z) (z ∷ []) []) (sym at)) ∙ sym (filter_more p xs i x l))

  -- what passes, in pieces of one element or none
  pub flat_map_filter : {Y : Type 0} (p : X → Bool) (f : X → Y) (xs : List X) → flat_map (λ x. cond (p x) (f x ∷ []) []) xs ≡ map f (filter p xs)
  flat_map_filter p f [] = refl
  flat_map_filter p f (x ∷ xs) =
      elim (p x) as (λ b. cond b (f x ∷ []) [] ++ flat_map (λ x. cond (p x) (f x ∷ []) []) xs ≡ map f (cond b (x ∷ filter p xs) (filter p xs))) [ true ↦ ap (λ zs. f x ∷ zs) (flat_map_filter p f xs) | false ↦ flat_map_filter p f xs ]

  pub flat_map_cond : {Y : Type 0} (p : X → Bool) (f : X → List Y) (xs : List X) → flat_map (λ x. cond (p x) (f x) []) xs ≡ flat_map f (filter p xs)
  flat_map_cond p f [] = refl
  flat_map_cond p f (x ∷ xs) =
      elim (p x) as (λ b. cond b (f x) [] ++ flat_map (λ x. cond (p x) (f x) []) xs ≡ flat_map f (cond b (x ∷ filter p xs) (filter p xs))) [ true ↦ ap (λ zs. f x ++ zs) (flat_map_cond p f xs) | false ↦ flat_map_cond p f xs ]

  -- one piece more, and what is left after it
  pub pieces_more : {Y : Type 0} (f : X → List Y) (xs : List X) (i : ℕ) (d : X) → i < length xs → flat_map f (take (i + 1) xs) ≡ flat_map f (take i xs) ++ f (get_or xs i d)
  pieces_more f xs i d l = ap (flat_map f) (take_more xs i d l) ∙ flat_map-append f (take i xs) (get_or xs i d ∷ []) ∙ ap (λ zs. flat_map f (take i xs) ++ zs) (append-nil (f (get_or xs i d)))

  pub pieces_rest : {Y : Type 0} (f : X → List Y) (xs : List X) (i : ℕ) → flat_map f xs ≡ flat_map f (take i xs) ++ flat_map f (drop i xs)
  pieces_rest f xs i = ap (flat_map f) (sym (take-append-drop i xs)) ∙ flat_map-append f (take i xs) (drop i xs)

  -- ---- sorting

  before_all : (R : X → X → Ordering) (before : X → X → Bool) → ((x y : X) → R x y ≡ Less → before x y ≡ true) → (x : X) (xs : List X) → AllByRecursion (λ y. R x y ≡ Less) xs → All (λ y. IsTrue (before x y)) xs
  before_all R before is x [] h = All-nil (λ y. IsTrue (before x y))
  before_all R before is x (y ∷ ys) h = All-cons (λ y. IsTrue (before x y)) y ys (is x y h.0) (before_all R before is x ys h.1)

  rising_of : (R : X → X → Ordering) (before : X → X → Bool) → ((x y : X) → R x y ≡ Less → before x y ≡ true) → (xs : List X) → IsStrictlySortedBy R xs → IsRising before xs
  unfolding IsStrictlySortedBy
  rising_of R before is [] h = tt
  rising_of R before is (x ∷ xs) h = (before_all R before is x xs h.0, rising_of R before is xs h.1)

  -- what was sorted, and each element kept once
  pub listed : (R : X → X → Ordering) (before E : X → X → Bool) → IsTotalOrder R → IsEquivalence E → ((x y : X) → E x y ≡ eq_by_cmp R x y) → ((x y : X) → E x y ≡ true → x ≡ y) → ((x y : X) → R x y ≡ Less → before x y ≡ true) →
      (P : X → Type 0) (all ys zs : List X) → ((x : X) → Contains all x → P x) → ((x : X) → P x → Contains all x) → IsPermutation all ys → IsSorted R ys → zs ≡ dedup E ys → ListsExactly before P zs
  listed R before E total equivalence ties same is P all ys zs only every p sorted made = record {
    rising = subst (IsRising before) (sym made) (rising_of R before is (dedup E ys) (IsStrictlySortedBy-dedup total ties ys sorted));
    only = All-from_members P zs (λ x m. only x (Contains-permutation ys all x (IsPermutation-sym all ys p) (Contains-from_dedup E ys x (subst (λ ws. Contains ws x) made m))));
    every = λ x h. subst (λ ws. Contains ws x) (sym made) (Contains-dedup equivalence same ys x (Contains-permutation all ys x p (every x h)));
  }
