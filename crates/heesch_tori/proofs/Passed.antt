-- The later variables that share a cell with one, listed one after another.
use Rattle.std.proofs.Common.{◌≡◌, refl, sym, ap, ◌∙◌, ℕ, zero, suc, ◌+◌, ◌-◌, ◌<◌, ◌≤◌, List, [], ◌∷◌, ◌++◌, map, filter, length, get_or, take, Bool, true, false, cond, ◌&&◌, not, inl, inr, arith, lt-ltb, ltb-true}
use Rattle.std.specs.Prelude.{nat_lt, sum, flat_map}
use Rattle.std.specs.List.{enumerate_from}
use Rattle.std.proofs.lemmas.Bool.{cases_Bool}
use Rattle.std.proofs.lemmas.List.{append-nil, map_more, take_all, take_more, map-append, length-map, length-append}
use Rattle.std.proofs.lemmas.List.Elements.{filter-append}
use Rattle.std.proofs.lemmas.List.Filters.{length-filter_both}
use Rattle.std.proofs.lemmas.List.Sums.{sum_by_push}
use Rattle.std.proofs.lemmas.List.FromFn.{length-enumerate_from, get_or-enumerate_from}
use Rattle.std.proofs.lemmas.Grind.{flat_map-append}
use Rattle.heesch_grid.specs.declared.Cell.{Cell}
use Rattle.heesch_grid.specs.Cells.{meet, set_of}
use Rattle.heesch_tori.specs.Later.{all_later, later_sharing, later_counts, later_numbers, variable_at}

abbrev pub Entry : Type 0
Entry = ℕ × List Cell

abbrev pub no_entry : Entry
no_entry = (0, [])

-- the number of an entry
abbrev pub number_of : Entry → ℕ
number_of x = x.0

not_less : (m n : ℕ) → n ≤ m → nat_lt m n ≡ false
not_less m n l = elim (cases_Bool (nat_lt m n)) [ inl t ↦ let less = ltb-true m n t in absurd (omega arith) | inr f ↦ f ]

module _ (sets : List (List Cell)) where
  -- the entry at a place
  pub entry_is : (i : ℕ) → i < length sets → get_or (enumerate_from 1 sets) i no_entry ≡ variable_at sets (i + 1)
  entry_is i l =
      let next : 1 + i ≡ i + 1 = omega arith in
      let place : i ≡ i + 1 - 1 = omega arith in
      get_or-enumerate_from 1 sets i no_entry l ∙ (λ k. (next k, get_or sets (place k) []))

  pub entry_last : (v : ℕ) → 1 ≤ v → v ≤ length sets → get_or (enumerate_from 1 sets) (v - 1) no_entry ≡ variable_at sets v
  entry_last v low high =
      let e : v - 1 + 1 ≡ v = omega arith in
      entry_is (v - 1) (omega arith) ∙ ap (variable_at sets) e

  module _ (u : ℕ) where
    abbrev pub is_later : Entry → Bool
    is_later v = nat_lt u v.0 && meet (set_of sets u) v.1

    abbrev passed_to : ℕ → List Entry
    passed_to v = filter is_later (take (v - 1) (enumerate_from 1 sets))

    -- the numbers of those among the variables before a number
    abbrev pub numbers_to : ℕ → List ℕ
    numbers_to v = map number_of (passed_to v)

    none_from : (n k : ℕ) (xs : List (List Cell)) → n + k ≤ u + 1 → filter is_later (take k (enumerate_from n xs)) ≡ []
    none_from n zero xs l = refl
    none_from n (suc k) [] l = refl
    none_from n (suc k) (x ∷ xs) l =
        ap (λ b. cond (b && meet (set_of sets u) x) ((n, x) ∷ filter is_later (take k (enumerate_from (n + 1) xs))) (filter is_later (take k (enumerate_from (n + 1) xs)))) (not_less u n (omega arith))
        ∙ none_from (n + 1) k xs (omega arith)

    -- none up to the variable itself
    pub none_passed : (v : ℕ) → v ≡ u + 1 → numbers_to v ≡ []
    none_passed v e = ap (map number_of) (none_from 1 (v - 1) sets (omega arith))

    module _ (v : ℕ) (later : u < v) (last : v ≤ length sets) where
      abbrev here : Entry
      here = get_or (enumerate_from 1 sets) (v - 1) no_entry

      at : v - 1 < length (enumerate_from 1 sets)
      at = let long = length-enumerate_from 1 sets in omega arith

      test_is : (b : Bool) → b ≡ meet (set_of sets u) (set_of sets v) → is_later (get_or (enumerate_from 1 sets) (v - 1) no_entry) ≡ b
      test_is b e = ap is_later (entry_last v (omega arith) last) ∙ ap (λ t. t && meet (set_of sets u) (set_of sets v)) (lt-ltb u v later) ∙ sym e

      next : v + 1 - 1 ≡ v - 1 + 1
      next = omega arith

      more : (b : Bool) → b ≡ meet (set_of sets u) (set_of sets v) → passed_to (v + 1) ≡ passed_to v ++ cond b (here ∷ []) []
      more b e =
          ap (λ k. filter is_later (take k (enumerate_from 1 sets))) next
          ∙ ap (filter is_later) (take_more (enumerate_from 1 sets) (v - 1) no_entry at)
          ∙ filter-append is_later (take (v - 1) (enumerate_from 1 sets)) (here ∷ [])
          ∙ ap (λ t. passed_to v ++ cond t (here ∷ []) []) (test_is b e)

      -- one that shares a cell
      pub one_passed : true ≡ meet (set_of sets u) (set_of sets v) → numbers_to (v + 1) ≡ numbers_to v ++ v ∷ []
      one_passed e =
          ap (map number_of) (more true e)
          ∙ map-append number_of (passed_to v) (here ∷ [])
          ∙ ap (λ (x : Entry). numbers_to v ++ x.0 ∷ []) (entry_last v (omega arith) last)

      -- one that doesn't
      pub one_missed : false ≡ meet (set_of sets u) (set_of sets v) → numbers_to (v + 1) ≡ numbers_to v
      one_missed e = ap (map number_of) (more false e ∙ append-nil (passed_to v))

    -- all of them
    pub all_passed : (v : ℕ) → length sets < v → numbers_to v ≡ later_numbers sets (variable_at sets u)
    all_passed v l =
        let long = length-enumerate_from 1 sets in
        ap (λ xs. map number_of (filter is_later xs)) (take_all (v - 1) (enumerate_from 1 sets) (omega arith))

  -- no more than there are variables
  pub later_few : (u : Entry) → length (later_sharing sets u) ≤ length sets
  later_few u =
      let both = length-filter_both (λ (v : Entry). nat_lt u.0 v.0 && meet u.1 v.1) (λ (v : Entry). not (nat_lt u.0 v.0 && meet u.1 v.1)) (λ x. refl) (enumerate_from 1 sets) in
      let long = length-enumerate_from 1 sets in
      omega (arith, both, long)

  -- ---- the counts and the numbers, one variable more

  -- as many numbers stand last as the variable has
  pub numbers_long : (i : ℕ) (old new : List ℕ) → new ≡ old ++ later_numbers sets (variable_at sets (i + 1)) → length new ≡ length old + length (later_sharing sets (variable_at sets (i + 1)))
  numbers_long i old new is =
      let both = length-append old (later_numbers sets (variable_at sets (i + 1))) in
      let same = length-map (later_sharing sets (variable_at sets (i + 1))) number_of in
      let whole = ap length is in
      omega (arith, both, same, whole)

  pub counts_more : (i n : ℕ) (old new : List ℕ) → i < length sets → new ≡ old ++ n ∷ [] → n ≡ length (later_sharing sets (variable_at sets (i + 1))) → old ≡ map (λ u. length (later_sharing sets u)) (take i (enumerate_from 1 sets)) → new ≡ map (λ u. length (later_sharing sets u)) (take (i + 1) (enumerate_from 1 sets))
  counts_more i n old new l is count was =
      let long = length-enumerate_from 1 sets in
      let here : length (later_sharing sets (get_or (enumerate_from 1 sets) i no_entry)) ≡ n = ap (λ (u : Entry). length (later_sharing sets u)) (entry_is i l) ∙ sym count in
      is ∙ (λ k. was k ++ sym here k ∷ []) ∙ sym (map_more (λ u. length (later_sharing sets u)) (enumerate_from 1 sets) i no_entry (omega arith))

  pub counts_whole : (i : ℕ) (counts : List ℕ) → length sets ≤ i → counts ≡ map (λ u. length (later_sharing sets u)) (take i (enumerate_from 1 sets)) → counts ≡ later_counts sets
  counts_whole i counts l is =
      let long = length-enumerate_from 1 sets in
      is ∙ ap (map (λ u. length (later_sharing sets u))) (take_all i (enumerate_from 1 sets) (omega arith))

  pub numbers_more : (i : ℕ) (old new : List ℕ) → i < length sets → new ≡ old ++ later_numbers sets (variable_at sets (i + 1)) → old ≡ flat_map (later_numbers sets) (take i (enumerate_from 1 sets)) → new ≡ flat_map (later_numbers sets) (take (i + 1) (enumerate_from 1 sets))
  numbers_more i old new l is was =
      let long = length-enumerate_from 1 sets in
      let here = entry_is i l in
      is
      ∙ (λ k. was k ++ later_numbers sets (sym here k))
      ∙ ap (λ ys. flat_map (later_numbers sets) (take i (enumerate_from 1 sets)) ++ ys) (sym (append-nil (later_numbers sets (get_or (enumerate_from 1 sets) i no_entry))))
      ∙ sym (flat_map-append (later_numbers sets) (take i (enumerate_from 1 sets)) (get_or (enumerate_from 1 sets) i no_entry ∷ []))
      ∙ ap (flat_map (later_numbers sets)) (sym (take_more (enumerate_from 1 sets) i no_entry (omega arith)))

  pub numbers_whole : (i : ℕ) (numbers : List ℕ) → length sets ≤ i → numbers ≡ flat_map (later_numbers sets) (take i (enumerate_from 1 sets)) → numbers ≡ all_later sets
  numbers_whole i numbers l is =
      let long = length-enumerate_from 1 sets in
      is ∙ ap (flat_map (later_numbers sets)) (take_all i (enumerate_from 1 sets) (omega arith))

pub sum_more : (old new : List ℕ) (n : ℕ) → new ≡ old ++ n ∷ [] → sum new ≡ sum old + n
sum_more old new n is = ap sum is ∙ sum_by_push (λ (k : ℕ). k) old n
