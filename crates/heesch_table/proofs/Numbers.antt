-- Lists of numbers in order, and values that stand at numbers.
use Rattle.std.proofs.Common.{◌≡◌, ℕ, zero, suc, ◌+◌, ◌<◌, Bool, true, false, cond, ◌&&◌, ◌||◌, eqb, ltb, leb, List, [], ◌∷◌, map, filter, Option, Some, None, Ordering, ◌⊎◌, sym, refl, ap, ◌∙◌, ⊎_elim, arith}
use Rattle.std.specs.Prelude.{unwrap_or}
use Rattle.std.specs.declared.cmp.Ordering.TheVariants.{Less, Equal, Greater}
use Rattle.std.specs.Ordering.{is_eq, nat_cmp, eq_by_cmp, ordering_reverse}
use Rattle.std.specs.BTreeMap.{is_at}
use Rattle.std.specs.Map.{keys_of, lookup}
use Rattle.std.specs.List.{list_any, range_with_len}
use Rattle.std.specs.List.Sorted.{IsStrictlySortedBy}
use Rattle.std.proofs.lemmas.Bool.{cases_order, cases_Bool, and_right, eq-eqb, ne_eqb, eqb-true}
use Rattle.std.proofs.lemmas.Bool.Decides.{nat_tests}
use Rattle.std.proofs.lemmas.Cmp.{ranked, nat_cmp_total, by_ranked, tied_itself, eq_by_cmp_equiv}
use Rattle.std.proofs.lemmas.List.FromFn.{length-range_with_len, get_or-range_with_len}
use Rattle.std.proofs.lemmas.Map.{lookup-none}
use Rattle.std.proofs.lemmas.Map.Entries.{lookup_head, lookup_tail, none_past_head, none_below_head}
use Rattle.std.proofs.lemmas.Map.Keys.{sorted_from_strictly_increasing, sorted_tail, IsDistinct-from_sorted}
use Rattle.std.proofs.lemmas.Map.Lookups.{exact_unsigned}

-- a number is at the place of its own
pub at_itself : (q : ℕ) → is_at (nat_cmp q) q ≡ true
at_itself q = ap is_eq (tied_itself nat_cmp_total q)

-- and at no other
pub at_equal : (q n : ℕ) → is_at (nat_cmp q) n ≡ eqb q n
at_equal q n =
    by_ranked (q < n) (q ≡ n) (n < q) (nat_cmp q n) (ranked q n (nat_cmp q n) refl)
    (λ e l. ap is_eq e ∙ sym (ne_eqb q n (λ s. omega arith)))
    (λ e s. ap is_eq e ∙ sym (eq-eqb q n s))
    (λ e l. ap is_eq e ∙ sym (ne_eqb q n (λ s. omega arith)))

-- the value at a number, where each of some numbers has its own
pub lookup-numbers : (f : ℕ → ℕ) (q : ℕ) (ns : List ℕ) → lookup (is_at (nat_cmp q)) (map (λ n. (n, f n)) ns) ≡ cond (list_any (eqb q) ns) (Some (f q)) None
lookup-numbers f q [] = refl
lookup-numbers f q (n ∷ ns) =
    ap (λ (b : Bool). cond b (Some (f n)) (lookup (is_at (nat_cmp q)) (map (λ m. (m, f m)) ns))) (at_equal q n)
    ∙ ap (λ (o : Option ℕ). cond (eqb q n) (Some (f n)) o) (lookup-numbers f q ns)
    ∙ by_first (eqb q n) refl
  where
    by_first : (b : Bool) → eqb q n ≡ b → cond b (Some (f n)) (cond (list_any (eqb q) ns) (Some (f q)) None) ≡ cond (b || list_any (eqb q) ns) (Some (f q)) None
    by_first true e = ap (λ (m : ℕ). Some (f m)) (sym (eqb-true q n e))
    by_first false e = refl

-- a number is one of those of a range
pub any-range : (q a n : ℕ) → list_any (eqb q) (range_with_len a n) ≡ (leb a q && ltb q (a + n))
any-range q a zero = by_cases (cases_order q a)
  where
    by_cases : (q ≡ a) ⊎ ((q < a) ⊎ (a < q)) → false ≡ (leb a q && ltb q (a + 0))
    by_cases o = grind (arith, nat_tests)
any-range q a (suc n) = ap (λ (b : Bool). eqb q a || b) (any-range q (a + 1) n) ∙ step q a n
  where
    step : (q a n : ℕ) → (eqb q a || (leb (a + 1) q && ltb q (a + 1 + n))) ≡ (leb a q && ltb q (a + suc n))
    step q a n = grind (arith, nat_tests)

any-filter_step : (q n : ℕ) (p : ℕ → Bool) (ns : List ℕ) → list_any (eqb q) (filter p ns) ≡ (p q && list_any (eqb q) ns) → (a b : Bool) → p n ≡ a → eqb q n ≡ b → list_any (eqb q) (cond a (n ∷ filter p ns) (filter p ns)) ≡ (p q && (b || list_any (eqb q) ns))
any-filter_step q n p ns h true true e f = ap (λ (b : Bool). b || list_any (eqb q) (filter p ns)) f ∙ sym (ap (λ (b : Bool). b && true) (ap p (eqb-true q n f) ∙ e))
any-filter_step q n p ns h true false e f = ap (λ (b : Bool). b || list_any (eqb q) (filter p ns)) f ∙ h
any-filter_step q n p ns h false true e f = let no : p q ≡ false = ap p (eqb-true q n f) ∙ e in h ∙ ap (λ (b : Bool). b && list_any (eqb q) ns) no ∙ sym (ap (λ (b : Bool). b && true) no)
any-filter_step q n p ns h false false e f = h

pub any-filter : (q : ℕ) (p : ℕ → Bool) (ns : List ℕ) → list_any (eqb q) (filter p ns) ≡ (p q && list_any (eqb q) ns)
any-filter q p [] = sym (and_right (p q) false refl)
any-filter q p (n ∷ ns) = any-filter_step q n p ns (any-filter q p ns) (p n) (eqb q n) refl refl

pub keys-numbers : (f : ℕ → ℕ) (ns : List ℕ) → keys_of (map (λ n. (n, f n)) ns) ≡ ns
keys-numbers f [] = refl
keys-numbers f (n ∷ ns) = ap (λ (xs : List ℕ). n ∷ xs) (keys-numbers f ns)

pub sorted-range : (a n : ℕ) → IsStrictlySortedBy nat_cmp (range_with_len a n)
sorted-range a n =
    sorted_from_strictly_increasing (range_with_len a n) (λ k l.
    let less : k + 1 < n = omega (arith, length-range_with_len a n) in
    omega (arith, get_or-range_with_len a n k 0 (omega arith), get_or-range_with_len a n (k + 1) 0 less))

-- ---- two rising lists with the same value at each number are one

abbrev Entries : Type 0
Entries = List (ℕ × ℕ)

abbrev find : Entries → ℕ → Option ℕ
find es q = lookup (is_at (nat_cmp q)) es

abbrev Rises : Entries → Type 0
Rises es = IsStrictlySortedBy nat_cmp (keys_of es)

at_head : (x : ℕ × ℕ) (xs : Entries) → find (x ∷ xs) x.0 ≡ Some x.1
at_head x xs = lookup_head (is_at (nat_cmp x.0)) x xs (at_itself x.0)

past_head : (q : ℕ) (x : ℕ × ℕ) (xs : Entries) → Rises (x ∷ xs) → eq_by_cmp nat_cmp q x.0 ≡ true → find xs q ≡ None
past_head q x xs s t = lookup-none (is_at (nat_cmp q)) xs (none_past_head (eq_by_cmp_equiv nat_cmp_total) q x xs (IsDistinct-from_sorted nat_cmp _ s) t)

some_none : (v : ℕ) → Some v ≡ None → ⊥
some_none v e = cc

module _ (x y : ℕ × ℕ) (xs ys : Entries) (s : Rises (x ∷ xs)) (t : Rises (y ∷ ys)) (h : (q : ℕ) → find (x ∷ xs) q ≡ find (y ∷ ys) q) where
  by_heads : (r : Ordering) → nat_cmp x.0 y.0 ≡ r → nat_cmp x.0 y.0 ≡ Equal
  by_heads Less p = absurd (some_none x.1 (sym (at_head x xs) ∙ h x.0 ∙ lookup-none _ (y ∷ ys) (none_below_head nat_cmp_total x.0 y ys t p)))
  by_heads Equal p = p
  by_heads Greater p = absurd (some_none y.1 (sym (at_head y ys) ∙ sym (h y.0) ∙ lookup-none _ (x ∷ xs) (none_below_head nat_cmp_total y.0 x xs s (nat_cmp_total.antisymm y.0 x.0 ∙ ap ordering_reverse p))))

  heads : x.0 ≡ y.0
  heads = exact_unsigned x.0 y.0 (by_heads (nat_cmp x.0 y.0) refl)

  values : x.1 ≡ y.1
  values = ap (λ u. unwrap_or u x.1) (sym (at_head x xs) ∙ h x.0 ∙ lookup_head (is_at (nat_cmp x.0)) y ys (ap is_eq (by_heads (nat_cmp x.0 y.0) refl)))

  tails : (q : ℕ) → find xs q ≡ find ys q
  tails q =
      let e : eq_by_cmp nat_cmp q y.0 ≡ eq_by_cmp nat_cmp q x.0 = ap (λ (z : ℕ). eq_by_cmp nat_cmp q z) (sym heads) in
      ⊎_elim
      (λ b. past_head q x xs s b ∙ sym (past_head q y ys t (e ∙ b)))
      (λ b. sym (lookup_tail (is_at (nat_cmp q)) x xs b) ∙ h q ∙ lookup_tail (is_at (nat_cmp q)) y ys (e ∙ b))
      (cases_Bool (eq_by_cmp nat_cmp q x.0))

pub same_entries : (es fs : Entries) → Rises es → Rises fs → ((q : ℕ) → find es q ≡ find fs q) → es ≡ fs
same_entries [] [] s t h = refl
same_entries [] (y ∷ ys) s t h = absurd (some_none y.1 (sym (h y.0 ∙ at_head y ys)))
same_entries (x ∷ xs) [] s t h = absurd (some_none x.1 (sym (at_head x xs) ∙ h x.0))
same_entries (x ∷ xs) (y ∷ ys) s t h =
    let rest = same_entries xs ys (sorted_tail nat_cmp x.0 (keys_of xs) s) (sorted_tail nat_cmp y.0 (keys_of ys) t) (tails x y xs ys s t h) in
    λ i. (heads x y xs ys s t h i, values x y xs ys s t h i) ∷ rest i
