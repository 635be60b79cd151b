-- The number of the clause of two variables: where the second stands among the later ones that share a cell with the first.
use Rattle.std.proofs.Common.{◌≡◌, refl, sym, ap, ◌∙◌, ℕ, ◌+◌, ◌-◌, ◌<◌, ◌≤◌, List, [], length, get_or, take, drop, slice_range, true, Result, Ok, Err, MatchResult, inl, inr, arith, Contains, ◌&&◌, lt-ltb}
use Rattle.std.specs.Prelude.{MatchOption, nat_lt, sum}
use Rattle.std.specs.List.Sorted.{IsBinarySearchResult}
use Rattle.std.specs.Ordering.{nat_cmp}
use Rattle.std.specs.Result.{result_ok}
use Rattle.std.specs.List.{enumerate_from}
use Rattle.std.proofs.lemmas.Bool.{and_from, cases_lt}
use Rattle.std.proofs.lemmas.Grind.{same_number_lists}
use Rattle.std.proofs.lemmas.List.{get_or-drop, get_or_default, get_or-map, get_or-take, length-drop, length-map, length-take}
use Rattle.std.proofs.lemmas.List.FromFn.{length-enumerate_from}
use Rattle.std.proofs.lemmas.List.Sums.{sum_by_more, sum_by_more_le}
use Rattle.std.proofs.lemmas.List.Sorted.{searched}
use Rattle.heesch_cnf.specs.declared.literal.Lit.{Lit}
use Rattle.heesch_grid.specs.declared.Cell.{Cell}
use Rattle.heesch_grid.specs.Cells.{meet, set_of}
use Rattle.heesch_grid.specs.CoronaFormula.{exclusion_clauses}
use Rattle.heesch_grid.specs.Listing.{IsRising}
use Rattle.heesch_grid.proofs.ClauseFacts.{entries_rising}
use Rattle.heesch_grid.proofs.ListFacts.{member_filter, rising_filter}
use Rattle.heesch_grid.proofs.WindowFacts.{member_map}
use Rattle.heesch_cert.specs.Literals.{literals}
use Rattle.heesch_encode.proofs.Rising.{never_falls}
use Rattle.heesch_numbers.specs.Counts.{FallsIn}
use Rattle.heesch_torus.specs.Formula.{pair_clause}
use Rattle.heesch_torus.proofs.Numbering.{rising_map}
use Rattle.heesch_tori.specs.Later.{all_later, later_counts, later_numbers, later_sharing, variable_at}
use Rattle.heesch_tori.proofs.Pairs.{entry_there, later_counted, number_at, number_last, number_later, number_there, pair_at, pair_member}
use Rattle.heesch_tori.proofs.Passed.{Entry, entry_last, no_entry, number_of}

-- what a binary search among rising numbers says of the place of one
pub searched_place : (xs : List ℕ) (x : ℕ) (r : Result ℕ ℕ) → IsRising nat_lt xs → IsBinarySearchResult (λ y. nat_cmp y x) xs r → MatchOption (result_ok r) (¬ Contains xs x) (λ place. (place < length xs) × (get_or xs place 0 ≡ x))
searched_place xs x r rising h = by_result r (searched xs x r h (λ i j le l. never_falls xs rising i j 0 le l))
  where
    by_result : (r : Result ℕ ℕ) → MatchResult r (λ i. (i < length xs) × (get_or xs i 0 ≡ x)) (λ i. (i ≤ length xs) × ((k : ℕ) → k < i → get_or xs k 0 < x) × ((k : ℕ) → i ≤ k → k < length xs → x < get_or xs k 0)) → MatchOption (result_ok r) (¬ Contains xs x) (λ place. (place < length xs) × (get_or xs place 0 ≡ x))
    by_result (Ok place) found = found
    by_result (Err place) none = λ inside.
        let at = get_or_default xs inside.0 0 x inside.1 ∙ inside.2 in
        elim (cases_lt inside.0 place) [
          | inl low ↦ let less = none.1 inside.0 low in omega arith
          | inr high ↦ let more = none.2 inside.0 high inside.1 in omega arith
        ]

module _ (sets : List (List Cell)) (first : ℕ) (low : 1 ≤ first) (high : first ≤ length sets) where
  -- the later ones that share a cell with the first, by number
  abbrev pub row : List ℕ
  row = later_numbers sets (variable_at sets first)

  -- how many pairs come before those of the first
  abbrev pub before : ℕ
  before = sum (take (first - 1) (later_counts sets))

  next : first - 1 + 1 ≡ first
  next = omega (arith, low)

  pub counted : length (later_counts sets) ≡ length sets
  counted = length-map (enumerate_from 1 sets) (λ u. length (later_sharing sets u)) ∙ length-enumerate_from 1 sets

  row_counted : get_or (later_counts sets) (first - 1) 0 ≡ length (later_numbers sets (variable_at sets first))
  row_counted =
      let long = length-enumerate_from 1 sets in
      get_or-map (λ u. length (later_sharing sets u)) (enumerate_from 1 sets) (first - 1) no_entry 0 (omega arith)
      ∙ ap (λ u. length (later_sharing sets u)) (entry_last sets first low high)
      ∙ sym (length-map (later_sharing sets (variable_at sets first)) number_of)

  -- they end where those of the next one begin
  pub ends : sum (take first (later_counts sets)) ≡ before + length row
  ends =
      let long = counted in
      let more = sum_by_more (λ (n : ℕ). n) (later_counts sets) (first - 1) 0 (omega arith) in
      let here = row_counted in
      let end = ap (λ n. sum (take n (later_counts sets))) next in
      omega (arith, more, here, end)

  -- and so before the end of all
  pub within : before + length row ≤ sum (later_counts sets)
  within =
      let long = counted in
      let here = row_counted in
      let most = sum_by_more_le (λ (n : ℕ). n) (later_counts sets) (first - 1) 0 (omega arith) in
      omega (arith, here, most)

  pub row_rises : IsRising nat_lt row
  row_rises =
      rising_map number_of nat_lt (later_sharing sets (variable_at sets first))
      (rising_filter (λ (x y : Entry). nat_lt x.0 y.0) (λ (v : Entry). nat_lt first v.0 && meet (set_of sets first) v.1) (enumerate_from 1 sets) (entries_rising sets 1))

  module _ (rank : ℕ) (inside : rank < length row) where
    falls : FallsIn (later_counts sets) (before + rank) (first - 1) rank
    falls = let long = counted in let here = row_counted in record { part_is = omega arith; within = omega arith; before = refl }

    -- what stands in the row stands so far behind those before it
    pub row_at : get_or (all_later sets) (before + rank) 0 ≡ get_or row rank 0
    row_at =
        let few = length-map (later_sharing sets (variable_at sets first)) number_of in
        number_there sets (before + rank) (first - 1) rank falls
        ∙ ap (λ n. (get_or (later_sharing sets (variable_at sets n)) rank no_entry).0) next
        ∙ sym (get_or-map number_of (later_sharing sets (variable_at sets first)) rank no_entry 0 (omega arith))

    -- so there the clause of the two stands
    pub clause_there : (second : ℕ) → get_or row rank 0 ≡ second → get_or (exclusion_clauses literals meet sets) (before + rank) [] ≡ pair_clause first second
    clause_there second is =
        pair_at sets (before + rank) (first - 1) rank falls (get_or (all_later sets) (before + rank) 0) (number_later sets (before + rank) (first - 1) rank falls) (number_last sets (before + rank) (first - 1) rank falls) (number_at sets (before + rank) (first - 1) rank falls)
        ∙ (λ i. pair_clause (next i) ((row_at ∙ is) i))

  -- the numbers from where those of the first begin to where they end are the row
  pub row_is : slice_range (all_later sets) before (before + length row) ≡ row
  row_is =
      let all = sym (later_counted sets) in
      let whole = within in
      let few = length-take (before + length row - before) (drop before (all_later sets)) in
      let rest = length-drop before (all_later sets) in
      same_number_lists (slice_range (all_later sets) before (before + length row)) row (omega (arith, few, rest, whole, all))
      (λ k l.
      let inside : k < length row = omega (arith, few, rest, whole, all, l) in
      get_or-take (before + length row - before) (drop before (all_later sets)) k 0 (omega (arith, inside))
      ∙ get_or-drop before (all_later sets) k 0
      ∙ row_at k inside)

  -- a clause of the two there is only where the second stands in the row
  pub clause_member : (second : ℕ) → Contains (exclusion_clauses literals meet sets) (pair_clause first second) → Contains row second
  clause_member second m =
      let p = pair_member sets (pair_clause first second) m in
      let one : first ≡ p.first = ap (λ (e : List Lit). (get_or e 0 (literals.minus 0)).var) p.is in
      let two : second ≡ p.second = ap (λ (e : List Lit). (get_or e 1 (literals.minus 0)).var) p.is in
      let later = p.later in
      let last = p.last in
      let meets : meet (set_of sets first) (set_of sets second) ≡ true = (λ i. meet (set_of sets (one i)) (set_of sets (two i))) ∙ p.meets in
      member_map number_of (later_sharing sets (variable_at sets first)) (variable_at sets second)
      (member_filter (λ (v : Entry). nat_lt first v.0 && meet (set_of sets first) v.1) (enumerate_from 1 sets) (variable_at sets second)
      (entry_there sets second (omega (arith, two, later)) (omega (arith, two, last)))
      (and_from (nat_lt first second) (meet (set_of sets first) (set_of sets second)) (lt-ltb first second (omega (arith, one, two, later))) meets))
