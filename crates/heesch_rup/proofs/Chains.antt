use Rattle.std.proofs.Common.{inl, inr, ◌≡◌, ◌≢◌, ℕ, suc, ◌+◌, ◌<◌, ◌≤◌, Bool, true, false, eqb, Option, None, Some, List, [], ◌∷◌, ◌++◌, length, get_or, set, Decides, sym, ap, ◌∙◌, subst, refl, arith, get_or-set_same, get_or-set_other, length-append}
use Rattle.std.proofs.lemmas.Bool.{cases_lt}
use Rattle.std.proofs.lemmas.Bool.Decides.{Decides-eqb}
use Rattle.std.proofs.lemmas.List.{get_or_append_left, get_or-append-add, get_or_default, length-set}
use Rattle.heesch_cnf.specs.declared.literal.Lit.{Lit}
use Rattle.heesch_cnf.specs.Literals.{Values}
use Rattle.heesch_rup.specs.Listed.{slot_at, IsLastBelow, IsFalsified}

-- how many places a walk can still read
abbrev pub places_left : Option ℕ → ℕ
places_left None = 0
places_left (Some i) = suc i

module _ (counts : List ℕ) where
  -- a clause of another slot changes nothing
  IsLastBelow-more : (clauses : List (List Lit)) (n slot : ℕ) (o : Option ℕ) → slot_at counts clauses n ≢ slot → IsLastBelow counts clauses n slot o → IsLastBelow counts clauses (n + 1) slot o
  IsLastBelow-more clauses n slot None other last = λ k lt. elim (cases_lt k n) [
    | inl below ↦ last k below
    | inr past ↦ let same : n ≡ k = omega arith in subst (λ m. slot_at counts clauses m ≢ slot) same other
  ]
  IsLastBelow-more clauses n slot (Some i) other last = (
    omega (arith, last.0),
    last.1,
    λ k above lt. elim (cases_lt k n) [
      | inl below ↦ last.2 k above below
      | inr past ↦ let same : n ≡ k = omega arith in subst (λ m. slot_at counts clauses m ≢ slot) same other
    ],
  )

  -- the clause at n is the last one of its slot
  IsLastBelow-here : (clauses : List (List Lit)) (n : ℕ) → IsLastBelow counts clauses (n + 1) (slot_at counts clauses n) (Some n)
  IsLastBelow-here clauses n = (omega arith, refl, λ k above lt. absurd (omega arith))

  pub last_more : (clauses : List (List Lit)) (last : List (Option ℕ)) (n : ℕ) → slot_at counts clauses n < length last →
      ((slot : ℕ) → slot < length last → IsLastBelow counts clauses n slot (get_or last slot None)) →
      (slot : ℕ) → slot < length last → IsLastBelow counts clauses (n + 1) slot (get_or (set last (slot_at counts clauses n) (Some n)) slot None)
  last_more clauses last n fits before slot lt = by_test (eqb (slot_at counts clauses n) slot) (Decides-eqb (slot_at counts clauses n) slot)
    where
      here : ℕ
      here = slot_at counts clauses n

      by_test : (t : Bool) → Decides t (here ≡ slot) → IsLastBelow counts clauses (n + 1) slot (get_or (set last here (Some n)) slot None)
      by_test true d =
          subst (λ s. IsLastBelow counts clauses (n + 1) s (get_or (set last here (Some n)) s None)) (d.0 refl)
          (subst (IsLastBelow counts clauses (n + 1) here) (sym (get_or-set_same last here (Some n) None fits)) (IsLastBelow-here clauses n))
      by_test false d =
          let other : here ≢ slot = λ e. let no : false ≡ true = d.1 e in cc in
          subst (IsLastBelow counts clauses (n + 1) slot) (sym (get_or-set_other last here slot (Some n) None (λ e. other (sym e)))) (IsLastBelow-more clauses n slot (get_or last slot None) other (before slot lt))

  pub earlier_more : (clauses : List (List Lit)) (earlier : List (Option ℕ)) (o : Option ℕ) →
      ((k : ℕ) → k < length earlier → IsLastBelow counts clauses k (slot_at counts clauses k) (get_or earlier k None)) → IsLastBelow counts clauses (length earlier) (slot_at counts clauses (length earlier)) o →
      (k : ℕ) → k < length (earlier ++ o ∷ []) → IsLastBelow counts clauses k (slot_at counts clauses k) (get_or (earlier ++ o ∷ []) k None)
  earlier_more clauses earlier o before here k lt = elim (cases_lt k (length earlier)) [
    | inl below ↦ subst (IsLastBelow counts clauses k (slot_at counts clauses k)) (sym (get_or_append_left earlier (o ∷ []) None k below)) (before k below)
    | inr past ↦
        let same : length earlier + 0 ≡ k = omega (arith, length-append earlier (o ∷ [])) in
        let value = get_or-append-add earlier (o ∷ []) 0 None in
        let there : IsLastBelow counts clauses (length earlier + 0) (slot_at counts clauses (length earlier + 0)) o = subst (λ m. IsLastBelow counts clauses m (slot_at counts clauses m) o) (let e : length earlier ≡ length earlier + 0 = omega arith in e) here in
        subst (λ m. IsLastBelow counts clauses m (slot_at counts clauses m) (get_or (earlier ++ o ∷ []) m None)) same
        (subst (IsLastBelow counts clauses (length earlier + 0) (slot_at counts clauses (length earlier + 0))) (sym value) there)
  ]

  -- the slots after one more clause is listed
  pub lists_last : (clauses : List (List Lit)) (last : List (Option ℕ)) (n m slot : ℕ) → m ≡ n + 1 → slot ≡ slot_at counts clauses n → slot < length last →
      ((s : ℕ) → s < length last → IsLastBelow counts clauses n s (get_or last s None)) →
      (s : ℕ) → s < length (set last slot (Some n)) → IsLastBelow counts clauses m s (get_or (set last slot (Some n)) s None)
  lists_last clauses last n m slot m_is slot_is fits before s lt =
      let fits' : slot_at counts clauses n < length last = omega (arith, slot_is, fits) in
      let lt' : s < length last = omega (arith, lt, length-set last slot (Some n)) in
      subst (λ k. IsLastBelow counts clauses k s (get_or (set last slot (Some n)) s None)) (sym m_is)
      (subst (λ t. IsLastBelow counts clauses (n + 1) s (get_or (set last t (Some n)) s None)) (sym slot_is) (last_more clauses last n fits' before s lt'))

  -- the places before each clause after one more is listed
  pub lists_earlier : (clauses : List (List Lit)) (last earlier after : List (Option ℕ)) (n slot : ℕ) (o : Option ℕ) → after ≡ earlier ++ o ∷ [] → n ≡ length earlier → slot ≡ slot_at counts clauses n → slot < length last →
      o ≡ get_or last slot o → ((s : ℕ) → s < length last → IsLastBelow counts clauses (length earlier) s (get_or last s None)) →
      ((k : ℕ) → k < length earlier → IsLastBelow counts clauses k (slot_at counts clauses k) (get_or earlier k None)) →
      (k : ℕ) → k < length after → IsLastBelow counts clauses k (slot_at counts clauses k) (get_or after k None)
  lists_earlier clauses last earlier after n slot o after_is n_is slot_is fits o_is before_last before =
      let place = slot_is ∙ ap (slot_at counts clauses) n_is in
      let here : IsLastBelow counts clauses (length earlier) (slot_at counts clauses (length earlier)) o =
      subst (λ t. IsLastBelow counts clauses (length earlier) t o) place (subst (IsLastBelow counts clauses (length earlier) slot) (sym (o_is ∙ get_or_default last slot o None fits)) (before_last slot fits)) in
      subst (λ (xs : List (Option ℕ)). (k : ℕ) → k < length xs → IsLastBelow counts clauses k (slot_at counts clauses k) (get_or xs k None)) (sym after_is) (earlier_more clauses earlier o before here)

  -- what a walk down a slot has still to read, of which only the first n clauses count: all of these that could be falsified stand
  -- below a bound, and the next place is the last below it
  pub record Walks (values : Values) (clauses : List (List Lit)) (size n slot : ℕ) (next : Option ℕ) : Type 0 where
    pub bound : ℕ
    pub within : bound ≤ size
    pub last : IsLastBelow counts clauses bound slot next
    pub above : (k : ℕ) → bound ≤ k → k < n → slot_at counts clauses k ≡ slot → IsFalsified values (get_or clauses k []) → ⊥

  pub walk_at : (values : Values) (clauses : List (List Lit)) (size n slot : ℕ) (next : Option ℕ) (i : ℕ) → next ≡ Some i → Walks values clauses size n slot next → (i < size) × (slot_at counts clauses i ≡ slot)
  walk_at values clauses size n slot next i is walks =
      let last = subst (IsLastBelow counts clauses walks.bound slot) is walks.last in
      (omega (arith, last.0, walks.within), last.1)

  pub walk_more : (values : Values) (clauses : List (List Lit)) (size n slot : ℕ) (next : Option ℕ) (i : ℕ) (o : Option ℕ) → next ≡ Some i → Walks values clauses size n slot next →
      (i < n → IsFalsified values (get_or clauses i []) → ⊥) → IsLastBelow counts clauses i (slot_at counts clauses i) o → Walks values clauses size n slot o
  walk_more values clauses size n slot next i o is walks fresh earlier =
      let last = subst (IsLastBelow counts clauses walks.bound slot) is walks.last in
      record {
        bound = i;
        within = omega (arith, last.0, walks.within);
        last = subst (λ s. IsLastBelow counts clauses i s o) last.1 earlier;
        above = λ k le lt same falsified. elim (cases_lt k walks.bound) [
          | inl below ↦ elim (cases_lt i k) [
            | inl past ↦ last.2 k past below same
            | inr upto ↦ let here : k ≡ i = omega arith in fresh (omega (arith, lt)) (subst (λ m. IsFalsified values (get_or clauses m [])) here falsified)
          ]
          | inr over ↦ walks.above k over lt same falsified
        ];
      }
