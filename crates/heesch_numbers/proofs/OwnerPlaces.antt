-- Where the clauses and the owner variables of cells stand, by their counts.
use Rattle.std.proofs.Common.{◌≡◌, refl, sym, ap, ◌∙◌, ℕ, zero, suc, ◌+◌, ◌-◌, ◌*◌, ◌/◌, ◌%◌, ◌^◌, ◌<◌, ◌≤◌, List, [], ◌∷◌, map, length, get_or, take, inl, inr, sum, arith}
use Rattle.std.specs.Prelude.{sum_by}
use Rattle.std.proofs.lemmas.Bool.{cases_order}
use Rattle.std.proofs.lemmas.Nat.{leading_top, div_below, div-add-mod'}
use Rattle.std.proofs.lemmas.List.{length-map, take-map}
use Rattle.std.proofs.lemmas.List.Sums.{sum-map}
use Rattle.heesch_grid.specs.declared.Cell.{Cell}
use Rattle.heesch_grid.specs.Cells.{origin}
use Rattle.heesch_grid.specs.CoronaFormula.{Variable}
use Rattle.heesch_grid.specs.OwnerFormula.{holders, digits, owner_count}
use Rattle.heesch_grid.proofs.OwnedCells.{digits_are}
use Rattle.heesch_encode.proofs.Holders.{bit_clause}
use Rattle.heesch_numbers.specs.declared.owners.OwnerClauses.{OwnerClauses}
use Rattle.heesch_numbers.specs.Counts.{FallsIn}
use Rattle.heesch_numbers.specs.OwnerCounts.{AreOwners, clause_count, owners_of}
use Rattle.heesch_numbers.proofs.OwnersByNumber.{owner_at, first_owner, holders_few}

map_at : (f : Cell → ℕ) (cells : List Cell) (i : ℕ) → i < length cells → get_or (map f cells) i 0 ≡ f (get_or cells i origin)
map_at f [] i l = absurd (omega arith)
map_at f (c ∷ cells) zero l = refl
map_at f (c ∷ cells) (suc i) l = map_at f cells i (omega arith)

-- the place is in what the cell counts for
pub record FallsAt (f : Cell → ℕ) (cells : List Cell) (place part rest : ℕ) : Type 0 where
  pub in_cells : part < length cells
  pub in_part : rest < f (get_or cells part origin)
  pub sums : sum_by f (take part cells) + rest ≡ place

module _ (f : Cell → ℕ) (cells : List Cell) (counts : List ℕ) (is : counts ≡ map f cells) where
  pub sum_is : sum counts ≡ sum_by f cells
  sum_is = ap sum is ∙ sum-map f cells

  pub start_is : (part : ℕ) → sum (take part counts) ≡ sum_by f (take part cells)
  start_is part = ap (λ ns. sum (take part ns)) is ∙ ap sum (take-map f part cells) ∙ sum-map f (take part cells)

  pub falls_at : (place part rest : ℕ) → FallsIn counts place part rest → FallsAt f cells place part rest
  falls_at place part rest falls =
      let long = ap length is ∙ length-map cells f in
      let here = falls.part_is in
      let l : part < length cells = omega arith in
      let count : get_or counts part 0 ≡ f (get_or cells part origin) = ap (λ ns. get_or ns part 0) is ∙ map_at f cells part l in
      let within = falls.within in
      let start = start_is part in
      let before = falls.before in
      record { in_cells = l; in_part = omega arith; sums = omega arith }

-- ---- the clause of a place

module _ (vars : List Variable) (cells : List Cell) (place part rest : ℕ) (falls : FallsAt (clause_count vars) cells place part rest) where
  abbrev pub count_at : ℕ
  count_at = owner_count vars (get_or cells part origin)

  abbrev pub holders_at : List ℕ
  holders_at = holders vars (get_or cells part origin)

  pub some_bit : 0 < count_at
  some_bit =
      let within = falls.in_part in
      elim (cases_order 0 count_at) [
        | inl none ↦ let product : length holders_at * count_at ≡ length holders_at * 0 = ap (λ n. length holders_at * n) (sym none) in absurd (omega arith)
        | inr o ↦ elim o [ inl l ↦ l | inr m ↦ absurd (omega arith) ]
      ]

  pub rank_below : rest / count_at < length holders_at
  rank_below = div_below rest count_at (length holders_at) some_bit falls.in_part

  pub bit_below : rest % count_at < count_at
  bit_below = let some = some_bit in omega arith

  pub clause_at : get_or (owners_of vars cells) place [] ≡ bit_clause (first_owner vars (length vars + 1) cells part) (rest / count_at, get_or holders_at (rest / count_at) 0) (rest % count_at)
  clause_at =
      let sums = falls.sums in
      let parts = div-add-mod' rest count_at in
      let split : place ≡ sum_by (clause_count vars) (take part cells) + (rest / count_at * count_at + rest % count_at) = omega arith in
      ap (λ n. get_or (owners_of vars cells) n []) split ∙ owner_at vars (length vars + 1) cells part (rest / count_at) (rest % count_at) falls.in_cells rank_below bit_below

-- ---- binary digits

pub digits_small : (n k : ℕ) → n < 2 ^ k → digits n ≤ k
digits_small zero k l = omega arith
digits_small (suc n) k l =
    let top = leading_top k (suc n) (omega arith) l in
    let is = digits_are (suc n) top.0 top.2 top.3 in
    let s = top.1 in
    omega arith

-- the ranks of a cell have at most 31 digits
pub ranks_small : (vars : List Variable) (c : Cell) → length vars < 2 ^ 31 → owner_count vars c ≤ 31
ranks_small vars c few = let few_here = holders_few vars c in digits_small (length (holders vars c) - 1) 31 (omega arith)

pub vars_few : (vars : List Variable) (o : OwnerClauses) → AreOwners vars o → length vars < 2 ^ 31
vars_few vars o are = let small = are.small in omega arith
