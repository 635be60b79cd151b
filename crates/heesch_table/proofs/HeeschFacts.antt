-- The Heesch numbers of a list of verdicts.
use Rattle.std.proofs.Common.{◌≡◌, ℕ, zero, suc, ◌+◌, ◌<◌, ◌≤◌, Bool, true, false, cond, ◌&&◌, ◌||◌, eqb, ltb, leb, List, [], ◌∷◌, ◌++◌, Option, Some, None, All, sym, refl, ap, ◌∙◌, subst, inl, inr, arith}
use Rattle.std.specs.Prelude.{IsTrue, Any, count_by, unwrap_or, IfSome}
use Rattle.std.specs.Ordering.{nat_cmp}
use Rattle.std.specs.BTreeMap.{is_at}
use Rattle.std.specs.Map.{keys_of, values_of, lookup}
use Rattle.std.specs.List.{list_any, range_with_len}
use Rattle.std.specs.List.Sorted.{IsStrictlySortedBy}
use Rattle.std.proofs.lemmas.Bool.{or_cases, eqb-true, lt-ltb, le-leb, and_from, true≢false}
use Rattle.std.proofs.lemmas.List.Elements.{All-nil, All-cons, All-weaker}
use Rattle.std.proofs.lemmas.List.Folds.{list_any-append, Any-from_list_any, list_any-from_Any}
use Rattle.std.proofs.lemmas.List.Kept.{IsStrictlySortedBy-filter}
use Rattle.std.proofs.lemmas.List.Sums.{sum_by-cons, sum_by_push}
use Rattle.std.proofs.lemmas.Map.Views.{Contains-from_any, IfSome-lookup_from_All, All-values-insert_entry}
use Rattle.heesch_cert.specs.declared.verdict.Verdict.{Verdict}
use Rattle.heesch_cert.specs.declared.verdict.Verdict.TheVariants.{Tiles, Heesch, Levels, Holes, Turns, Size}
use Rattle.heesch_grid.specs.Listing.{IsRising}
use Rattle.heesch_grid.proofs.ListFacts.{All-from_members, filter_member, member_filter, rising_filter}
use Rattle.heesch_table.specs.Verdicts.{has_heesch, above_heesch}
use Rattle.heesch_table.specs.Counts.{heesch_numbers, heesch_of, above_all}
use Rattle.heesch_table.specs.Statements.{NumbersAreThoseThatOccur}
use Rattle.heesch_table.specs.Steps.{heesch_count, RaisesCount}
use Rattle.heesch_table.proofs.Numbers.{at_equal, lookup-numbers, any-range, any-filter, keys-numbers, sorted-range, same_entries}

-- ---- which numbers occur

above_one : (q : ℕ) (v : Verdict) → has_heesch q v ≡ true → q < above_heesch v
above_one q (Heesch h m) e = let same : h ≡ q = eqb-true h q e in omega arith
above_one q (Tiles kind domain classes) e = absurd (true≢false (sym e))
above_one q (Levels h) e = absurd (true≢false (sym e))
above_one q (Holes h) e = absurd (true≢false (sym e))
above_one q (Turns h phase at) e = absurd (true≢false (sym e))
above_one q (Size h phase at) e = absurd (true≢false (sym e))

above : (vs : List Verdict) (q : ℕ) → list_any (has_heesch q) vs ≡ true → q < above_all vs
above [] q e = absurd (true≢false (sym e))
above (v ∷ vs) q e =
    elim (or_cases (has_heesch q v) (list_any (has_heesch q) vs) e) [
      | inl h ↦ let l = above_one q v h in omega arith
      | inr h ↦ let l = above vs q h in omega arith
    ]

among : (vs : List Verdict) (q : ℕ) → list_any (has_heesch q) vs ≡ true → list_any (eqb q) (range_with_len 0 (above_all vs)) ≡ true
among vs q e =
    any-range q 0 (above_all vs)
    ∙ and_from (leb 0 q) (ltb q (0 + above_all vs)) (le-leb 0 q (omega arith)) (lt-ltb q (0 + above_all vs) (let l = above vs q e in omega arith))

any-numbers : (vs : List Verdict) (q : ℕ) → list_any (eqb q) (heesch_numbers vs) ≡ list_any (has_heesch q) vs
any-numbers vs q =
    any-filter q (λ n. list_any (has_heesch n) vs) (range_with_len 0 (above_all vs))
    ∙ by_cases (list_any (has_heesch q) vs) (list_any (eqb q) (range_with_len 0 (above_all vs))) (among vs q)
  where
    by_cases : (a b : Bool) → (a ≡ true → b ≡ true) → (a && b) ≡ a
    by_cases true b h = h refl
    by_cases false b h = refl

-- ---- as the law says

lower : (a b n : ℕ) → a < b → All (λ m. IsTrue (ltb a m)) (range_with_len b n)
lower a b zero l = All-nil (λ m. IsTrue (ltb a m))
lower a b (suc n) l = All-cons (λ m. IsTrue (ltb a m)) b (range_with_len (b + 1) n) (lt-ltb a b l) (lower a (b + 1) n (omega arith))

rising-range : (a n : ℕ) → IsRising ltb (range_with_len a n)
rising-range a zero = tt
rising-range a (suc n) = (lower a (a + 1) n (omega arith), rising-range (a + 1) n)

pub numbers_are_those_that_occur : NumbersAreThoseThatOccur
numbers_are_those_that_occur vs =
    let p : ℕ → Bool = λ n. list_any (has_heesch n) vs in
    let numbers : List ℕ = range_with_len 0 (above_all vs) in
    record {
      rising = rising_filter ltb p numbers (rising-range 0 (above_all vs));
      only = All-from_members (λ n. Any (λ v. IsTrue (has_heesch n v)) vs) (heesch_numbers vs) (λ n m. Any-from_list_any (has_heesch n) vs (filter_member p numbers n m).1);
      every = λ n h.
          let e : list_any (has_heesch n) vs ≡ true = list_any-from_Any (has_heesch n) vs h in
          member_filter p numbers n (Contains-from_any eqb-true n numbers (among vs n e)) e;
    }

-- ---- how often they occur

-- the numbers rise
pub rising_heesch : (vs : List Verdict) → IsStrictlySortedBy nat_cmp (keys_of (heesch_of vs))
rising_heesch vs =
    subst (IsStrictlySortedBy nat_cmp) (sym (keys-numbers (λ n. count_by (has_heesch n) vs) (heesch_numbers vs)))
    (IsStrictlySortedBy-filter nat_cmp (λ n. list_any (has_heesch n) vs) (range_with_len 0 (above_all vs)) (sorted-range 0 (above_all vs)))

-- the value at a number is its count, where it occurs
pub lookup-heesch : (vs : List Verdict) (q : ℕ) → lookup (is_at (nat_cmp q)) (heesch_of vs) ≡ cond (list_any (has_heesch q) vs) (Some (count_by (has_heesch q) vs)) None
lookup-heesch vs q =
    lookup-numbers (λ n. count_by (has_heesch n) vs) q (heesch_numbers vs)
    ∙ ap (λ (b : Bool). cond b (Some (count_by (has_heesch q) vs)) None) (any-numbers vs q)

-- what doesn't occur is counted 0 times
counted_none : (p : Verdict → Bool) (vs : List Verdict) → list_any p vs ≡ false → count_by p vs ≡ 0
counted_none p [] e = refl
counted_none p (v ∷ vs) e = sum_by-cons (λ x. cond (p x) 1 0) v vs ∙ step (p v) (list_any p vs) e (counted_none p vs)
  where
    step : (a b : Bool) → (a || b) ≡ false → (b ≡ false → count_by p vs ≡ 0) → cond a 1 0 + count_by p vs ≡ 0
    step true b e h = absurd (true≢false e)
    step false b e h = let z = h e in omega arith

pub count-heesch : (vs : List Verdict) (q : ℕ) → heesch_count (heesch_of vs) q ≡ count_by (has_heesch q) vs
count-heesch vs q =
    ap (λ (o : Option ℕ). unwrap_or o 0) (lookup-heesch vs q) ∙ by_cases (list_any (has_heesch q) vs) (count_by (has_heesch q) vs) (counted_none (has_heesch q) vs)
  where
    by_cases : (b : Bool) (n : ℕ) → (b ≡ false → n ≡ 0) → unwrap_or (cond b (Some n) None) 0 ≡ n
    by_cases true n h = refl
    by_cases false n h = sym (h refl)

-- ---- one more verdict

-- which numbers occur, and how often
any-more : (vs : List Verdict) (v : Verdict) (q : ℕ) → list_any (has_heesch q) (vs ++ v ∷ []) ≡ (list_any (has_heesch q) vs || (has_heesch q v || false))
any-more vs v q = list_any-append (has_heesch q) vs (v ∷ [])

count-more : (vs : List Verdict) (v : Verdict) (q : ℕ) → count_by (has_heesch q) (vs ++ v ∷ []) ≡ count_by (has_heesch q) vs + cond (has_heesch q v) 1 0
count-more vs v q = sum_by_push (λ x. cond (has_heesch q x) 1 0) vs v

lookup-more : (vs : List Verdict) (v : Verdict) (q : ℕ) (b : Bool) → has_heesch q v ≡ b → lookup (is_at (nat_cmp q)) (heesch_of (vs ++ v ∷ [])) ≡ cond b (Some (count_by (has_heesch q) vs + 1)) (lookup (is_at (nat_cmp q)) (heesch_of vs))
lookup-more vs v q b e =
    lookup-heesch (vs ++ v ∷ []) q
    ∙ rw (any-more vs v q, count-more vs v q, e) (by_cases b (list_any (has_heesch q) vs) (count_by (has_heesch q) vs))
    ∙ sym (ap (λ (o : Option ℕ). cond b (Some (count_by (has_heesch q) vs + 1)) o) (lookup-heesch vs q))
  where
    by_cases : (b a : Bool) (n : ℕ) → cond (a || (b || false)) (Some (n + cond b 1 0)) None ≡ cond b (Some (n + 1)) (cond a (Some n) None)
    by_cases true true n = refl
    by_cases true false n = refl
    by_cases false true n = ap (λ (m : ℕ). Some m) (omega arith)
    by_cases false false n = refl

-- a verdict without a Heesch number
pub heesch_same : (vs : List Verdict) (v : Verdict) → ((q : ℕ) → has_heesch q v ≡ false) → heesch_of (vs ++ v ∷ []) ≡ heesch_of vs
heesch_same vs v h = same_entries (heesch_of (vs ++ v ∷ [])) (heesch_of vs) (rising_heesch (vs ++ v ∷ [])) (rising_heesch vs) (λ q. lookup-more vs v q false (h q))

-- one with the number h
pub heesch_more : (vs : List Verdict) (h m : ℕ) (new : List (ℕ × ℕ)) → RaisesCount h (heesch_of vs) new → new ≡ heesch_of (vs ++ Heesch h m ∷ [])
heesch_more vs h m new raised =
    same_entries new (heesch_of (vs ++ Heesch h m ∷ [])) raised.rising (rising_heesch (vs ++ Heesch h m ∷ [])) (λ q.
    raised.counts q
    ∙ ap (λ (b : Bool). cond b (Some (heesch_count (heesch_of vs) h + 1)) (lookup (is_at (nat_cmp q)) (heesch_of vs))) (at_equal h q)
    ∙ by_cases q (eqb h q) refl
    ∙ sym (lookup-more vs (Heesch h m) q (eqb h q) refl))
  where
    by_cases : (q : ℕ) (b : Bool) → eqb h q ≡ b → cond b (Some (heesch_count (heesch_of vs) h + 1)) (lookup (is_at (nat_cmp q)) (heesch_of vs)) ≡ cond b (Some (count_by (has_heesch q) vs + 1)) (lookup (is_at (nat_cmp q)) (heesch_of vs))
    by_cases q true e = ap (λ (n : ℕ). Some (n + 1)) (count-heesch vs h ∙ ap (λ (z : ℕ). count_by (has_heesch z) vs) (eqb-true h q e))
    by_cases q false e = refl

-- ---- bounds

-- a count is bounded as all are
pub count_within : (es : List (ℕ × ℕ)) (h n : ℕ) → All (λ count. count ≤ n) (values_of es) → heesch_count es h ≤ n
count_within es h n all = by_cases (lookup (is_at (nat_cmp h)) es) (IfSome-lookup_from_All (λ count. count ≤ n) (is_at (nat_cmp h)) es all)
  where
    by_cases : (o : Option ℕ) → IfSome o (λ count. count ≤ n) → unwrap_or o 0 ≤ n
    by_cases None l = omega arith
    by_cases (Some m) l = l

pub still_within : (es : List (ℕ × ℕ)) (n : ℕ) → All (λ count. count ≤ n) (values_of es) → All (λ count. count ≤ n + 1) (values_of es)
still_within es n all = All-weaker (λ count. count ≤ n) (λ count. count ≤ n + 1) (λ count l. omega arith) (values_of es) all

pub raised_within : (es new : List (ℕ × ℕ)) (h n : ℕ) → RaisesCount h es new → All (λ count. count ≤ n) (values_of es) → All (λ count. count ≤ n + 1) (values_of new)
raised_within es new h n raised all =
    subst (λ (fs : List (ℕ × ℕ)). All (λ count. count ≤ n + 1) (values_of fs)) (sym raised.entries)
    (All-values-insert_entry nat_cmp h (heesch_count es h + 1) (λ count. count ≤ n + 1) es (still_within es n all) (let l = count_within es h n all in omega arith))

pub no_number : (q : ℕ) (v : Verdict) → ((h m : ℕ) → v ≡ Heesch h m → ⊥) → has_heesch q v ≡ false
no_number q (Heesch h m) other = absurd (other h m refl)
no_number q (Tiles kind domain classes) other = refl
no_number q (Levels h) other = refl
no_number q (Holes h) other = refl
no_number q (Turns h phase at) other = refl
no_number q (Size h phase at) other = refl
