use Rattle.std.proofs.Common.{◌≡◌, ℕ, ◌+◌, ◌<◌, ◌≤◌, Bool, true, List, [], ◌∷◌, ◌++◌, length, get_or, All, Contains, sym, ap, ◌∙◌, subst, inl, inr, ◌⊎◌, refl, arith, length-append}
use Rattle.std.specs.List.{AllAdjacentBelow}
use Rattle.std.specs.List.Sorted.{IsPermutation, IsSorted}
use Rattle.std.specs.Ordering.{nat_cmp}
use Rattle.std.proofs.lemmas.Bool.{cases_lt}
use Rattle.std.proofs.lemmas.List.{get_or_append_left, get_or_at, get_or_default}
use Rattle.std.proofs.lemmas.List.Elements.{All-nil, All-push, All-weaker, Contains-push, Contains-append_left}
use Rattle.std.proofs.lemmas.List.Sorted.{All-permutation, Contains-permutation, IsNonDecreasingBy-from_sort}
use Rattle.heesch_cnf.specs.declared.literal.Lit.{Lit}
use Rattle.heesch_trail.specs.declared.step.Step.{Step}
use Rattle.heesch_cdcl.specs.Marking.{marked, AreMarked}
use Rattle.heesch_cdcl.specs.Marked.{falsified, IsClauseOfMarked}

-- one literal above the others
adjacent-push : (xs : List Lit) (x : Lit) → AllAdjacentBelow (λ (l m : Lit). l.var < m.var) xs (length xs) → All (λ (l : Lit). l.var < x.var) xs → AllAdjacentBelow (λ (l m : Lit). l.var < m.var) (xs ++ x ∷ []) (length (xs ++ x ∷ []))
adjacent-push xs x rising below k d lt =
    let long = length-append xs (x ∷ []) in
    elim (cases_lt (k + 1) (length xs)) [
      | inl less ↦
          let first = get_or_append_left xs (x ∷ []) d k (omega arith) in
          let second = get_or_append_left xs (x ∷ []) d (k + 1) less in
          omega (arith, ap (λ (l : Lit). l.var) first, ap (λ (l : Lit). l.var) second, rising k d less)
      | inr more ↦
          let last : length xs ≡ k + 1 = omega (arith, lt, long) in
          let before : k < length xs = omega arith in
          let first = get_or_append_left xs (x ∷ []) d k before in
          let second = get_or_at xs x [] d (k + 1) last in
          omega (arith, ap (λ (l : Lit). l.var) first, ap (λ (l : Lit). l.var) second, below k d before)
    ]

-- the marked variables in order, each at least once
pub record AreSorted (vars : ℕ) (seen : List Bool) (sorted : List ℕ) : Type 0 where
  pub in_range : All (λ v. (1 ≤ v) × (v ≤ vars)) sorted
  pub each : All (λ v. marked seen v ≡ true) sorted
  pub has : (v : ℕ) → marked seen v ≡ true → Contains sorted v
  pub up : (i j : ℕ) → i ≤ j → j < length sorted → get_or sorted i 0 ≤ get_or sorted j 0

pub AreSorted-kept : (vars : ℕ) (seen : List Bool) (kept sorted : List ℕ) → length seen ≡ vars + 1 → AreMarked seen kept → IsPermutation kept sorted → IsSorted nat_cmp sorted → AreSorted vars seen sorted
AreSorted-kept vars seen kept sorted room a same up = record {
  in_range = All-weaker (λ v. (1 ≤ v) × (v < length seen)) (λ v. (1 ≤ v) × (v ≤ vars)) (λ v h. (h.0, omega (arith, h.1, room))) sorted (All-permutation (λ v. (1 ≤ v) × (v < length seen)) kept sorted same a.in_range);
  each = All-permutation (λ v. marked seen v ≡ true) kept sorted same a.each;
  has = λ v m. Contains-permutation kept sorted v same (a.has v m);
  up = λ i j le lt. IsNonDecreasingBy-from_sort (λ (n : ℕ). n) sorted up i j 0 le lt;
}

-- the same, as it is read
pub AreSorted-read : (vars : ℕ) (seen : List Bool) (kept sorted read : List ℕ) → length seen ≡ vars + 1 → AreMarked seen kept → IsPermutation kept sorted → IsSorted nat_cmp sorted → read ≡ sorted → AreSorted vars seen read
AreSorted-read vars seen kept sorted read room a same up value = subst (AreSorted vars seen) (sym value) (AreSorted-kept vars seen kept sorted room a same up)

-- the clause of the first i variables
pub record IsAssembled (vars : ℕ) (steps : List Step) (seen : List Bool) (sorted : List ℕ) (i last : ℕ) (clause : List Lit) : Type 0 where
  pub in_range : All (λ (l : Lit). (1 ≤ l.var) × (l.var ≤ vars)) clause
  pub rising : AllAdjacentBelow (λ (l m : Lit). l.var < m.var) clause (length clause)
  pub below : All (λ (l : Lit). l.var ≤ last) clause
  pub each : All (λ (l : Lit). (l ≡ falsified steps l.var) × (marked seen l.var ≡ true)) clause
  pub has : (k : ℕ) → k < i → Contains clause (falsified steps (get_or sorted k 0))
  pub top : (last ≡ 0) ⊎ Contains clause (falsified steps last)
  pub low : (j : ℕ) → i ≤ j → j < length sorted → last ≤ get_or sorted j 0

pub Assembled-none : (vars : ℕ) (steps : List Step) (seen : List Bool) (sorted : List ℕ) → IsAssembled vars steps seen sorted 0 0 []
Assembled-none vars steps seen sorted = record {
  in_range = All-nil (λ (l : Lit). (1 ≤ l.var) × (l.var ≤ vars));
  rising = λ k d lt. absurd (omega arith);
  below = All-nil (λ (l : Lit). l.var ≤ 0);
  each = All-nil (λ (l : Lit). (l ≡ falsified steps l.var) × (marked seen l.var ≡ true));
  has = λ k lt. absurd (omega arith);
  top = inl refl;
  low = λ j le lt. omega arith;
}

-- a variable above the last
pub Assembled-push : (vars : ℕ) (steps : List Step) (seen : List Bool) (sorted : List ℕ) (i last v : ℕ) (clause : List Lit) → AreSorted vars seen sorted → IsAssembled vars steps seen sorted i last clause →
    i < length sorted → v ≡ get_or sorted i 0 → last < v → IsAssembled vars steps seen sorted (i + 1) v (clause ++ falsified steps v ∷ [])
Assembled-push vars steps seen sorted i last v clause s a lt is more =
    let x = falsified steps v in
    let range = subst (λ n. (1 ≤ n) × (n ≤ vars)) (sym is) (s.in_range i 0 lt) in
    record {
      in_range = All-push (λ (l : Lit). (1 ≤ l.var) × (l.var ≤ vars)) clause x a.in_range range;
      rising = adjacent-push clause x a.rising (All-weaker (λ (l : Lit). l.var ≤ last) (λ (l : Lit). l.var < v) (λ l h. omega arith) clause a.below);
      below = All-push (λ (l : Lit). l.var ≤ v) clause x (All-weaker (λ (l : Lit). l.var ≤ last) (λ (l : Lit). l.var ≤ v) (λ l h. omega arith) clause a.below) (omega arith);
      each = All-push (λ (l : Lit). (l ≡ falsified steps l.var) × (marked seen l.var ≡ true)) clause x a.each (refl, subst (λ n. marked seen n ≡ true) (sym is) (s.each i 0 lt));
      has = λ k below. elim (cases_lt k i) [
        | inl before ↦ Contains-append_left clause (x ∷ []) (falsified steps (get_or sorted k 0)) (a.has k before)
        | inr at ↦
            let same : k ≡ i = omega arith in
            subst (λ n. Contains (clause ++ x ∷ []) (falsified steps n)) (is ∙ ap (λ n. get_or sorted n 0) (sym same)) (Contains-push clause x)
      ];
      top = inr (Contains-push clause x);
      low = λ j le below. let up = s.up i j (omega arith) below in omega (arith, up, is);
    }

-- a variable that isn't above the last is the last
pub Assembled-skip : (vars : ℕ) (steps : List Step) (seen : List Bool) (sorted : List ℕ) (i last v : ℕ) (clause : List Lit) → AreSorted vars seen sorted → IsAssembled vars steps seen sorted i last clause →
    i < length sorted → v ≡ get_or sorted i 0 → v ≤ last → IsAssembled vars steps seen sorted (i + 1) last clause
Assembled-skip vars steps seen sorted i last v clause s a lt is le =
    let range = s.in_range i 0 lt in
    let low = a.low i (omega arith) lt in
    let same : last ≡ get_or sorted i 0 = omega (arith, low, le, is) in
    record {
      in_range = a.in_range;
      rising = a.rising;
      below = a.below;
      each = a.each;
      has = λ k below. elim (cases_lt k i) [
        | inl before ↦ a.has k before
        | inr at ↦
            let here : i ≡ k = omega arith in
            subst (λ n. Contains clause (falsified steps n)) (same ∙ ap (λ n. get_or sorted n 0) here) (by_top a.top (omega (arith, same, range.0)))
      ];
      top = a.top;
      low = λ j le below. a.low j (omega arith) below;
    }
  where
    by_top : (last ≡ 0) ⊎ Contains clause (falsified steps last) → 1 ≤ last → Contains clause (falsified steps last)
    by_top (inl zero_last) some = absurd (omega arith)
    by_top (inr has) some = has

pub Assembled-whole : (vars : ℕ) (steps : List Step) (seen : List Bool) (sorted : List ℕ) (i last : ℕ) (clause : List Lit) → AreSorted vars seen sorted → IsAssembled vars steps seen sorted i last clause →
    length sorted ≤ i → IsClauseOfMarked vars steps seen clause
Assembled-whole vars steps seen sorted i last clause s a all = record {
  form = record { in_range = a.in_range; rising = a.rising };
  each = a.each;
  has = λ v m.
      let at = s.has v m in
      let lt = at.1 in
      subst (λ n. Contains clause (falsified steps n)) (get_or_default sorted at.0 0 v at.1 ∙ at.2) (a.has at.0 (omega arith));
}
