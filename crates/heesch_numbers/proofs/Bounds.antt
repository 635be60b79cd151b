-- At most how many literals the clauses of families 1 to 3 have, where no cell is in the tiles of more than so many variables.
use Rattle.std.proofs.Common.{◌≡◌, sym, ap, ◌∙◌, ℕ, ◌+◌, ◌-◌, ◌*◌, ◌<◌, ◌≤◌, zero-le, List, [], ◌∷◌, map, filter, length, get_or, Bool, true, false, cond, not, ◌&&◌, inl, inr, arith, Contains, filter_map, true≢false, eqb-true, le-leb, ne_eqb}
use Rattle.std.specs.Prelude.{Some, None, sum, sum_by, flat_map, nat_le, nat_lt, ◌==◌}
use Rattle.std.specs.List.{enumerate_from, cons_option}
use Rattle.std.proofs.lemmas.Bool.{and_parts, and_from, cases_Bool}
use Rattle.std.proofs.lemmas.List.{length-map, length-append}
use Rattle.std.proofs.lemmas.List.Sums.{sum_by-append, sum_by-le}
use Rattle.heesch_cnf.specs.declared.literal.Lit.{Lit}
use Rattle.heesch_grid.specs.declared.Cell.{Cell}
use Rattle.heesch_grid.specs.Listing.{ListsExactly}
use Rattle.heesch_grid.specs.Cells.{cell_before, has}
use Rattle.heesch_grid.specs.Geometry.{Geometry, IsGrid, IsAround}
use Rattle.heesch_grid.specs.Placement.{touch}
use Rattle.heesch_grid.specs.Clauses.{clause_of, formula_size, is_numbered, no_variable}
use Rattle.heesch_grid.specs.CoronaFormula.{Variable, covers}
use Rattle.heesch_grid.proofs.CellFacts.{has-is, meet-is}
use Rattle.heesch_grid.proofs.ListFacts.{no_more_pass}
use Rattle.heesch_grid.proofs.TileFacts.{contact}
use Rattle.heesch_cert.specs.Literals.{literals}
use Rattle.heesch_place.specs.Universes.{Levels, covering}
use Rattle.heesch_encode.specs.Meeting.{supporting}
use Rattle.heesch_encode.specs.Families.{covering_at, support_at}
use Rattle.heesch_numbers.specs.Common.{common_of, covering_counts}
use Rattle.heesch_numbers.specs.OwnerCounts.{IsHoldersBound}
use Rattle.heesch_numbers.proofs.Counting.{all_counted}
use Rattle.heesch_numbers.proofs.Rooms.{common_size, size_map}
use Rattle.heesch_numbers.proofs.Sizes.{choice_size}
use Rattle.heesch_numbers.proofs.Unions.{length-filter_any}

abbrev Entry : Type 0
Entry = ℕ × Variable

abbrev Clauses : Type 0
Clauses = List (List Lit)

-- ---- clauses of at most so many literals

pub size_map_few : {X : Type 0} (f : X → List Lit) (m : ℕ) → ((x : X) → length (f x) ≤ m) → (xs : List X) → formula_size (map f xs) ≤ length (map f xs) * m
size_map_few f m few xs =
    let size = size_map f xs in
    let sum = sum_by-le (λ x. length (f x)) m xs (λ k d l. few (get_or xs k d)) in
    let long = ap (λ k. k * m) (length-map xs f) in
    omega (arith, size, sum, long)

size_flat_few : {X : Type 0} (f : X → Clauses) (m : ℕ) → ((x : X) → formula_size (f x) ≤ length (f x) * m) → (xs : List X) → formula_size (flat_map f xs) ≤ length (flat_map f xs) * m
size_flat_few f m few [] = zero-le
size_flat_few f m few (x ∷ xs) =
    let size = sum_by-append length (f x) (flat_map f xs) in
    let long = ap (λ k. k * m) (length-append (f x) (flat_map f xs)) in
    let here = few x in
    let rest = size_flat_few f m few xs in
    let parts : (length (f x) + length (flat_map f xs)) * m ≡ length (f x) * m + length (flat_map f xs) * m = omega arith in
    omega (arith, size, long, here, rest, parts)

-- ---- a clause with the negation of one variable

module _ (n : ℕ) where
  one_more : (b c : Bool) (x : Entry) (ls : List Lit) (xs ys : List Entry) → length ls ≤ length xs + length ys → length (cons_option (cond b (Some (literals.minus x.0)) (cond c (Some (literals.plus x.0)) None)) ls) ≤ length (cond b (x ∷ xs) xs) + length (cond c (x ∷ ys) ys)
  one_more true true x ls xs ys h = omega (arith, h)
  one_more true false x ls xs ys h = omega (arith, h)
  one_more false true x ls xs ys h = omega (arith, h)
  one_more false false x ls xs ys h = h

  literals_few : (p : Entry → Bool) (xs : List Entry) → length (filter_map (λ (x : Entry). cond (x.0 == n) (Some (literals.minus x.0)) (cond (p x) (Some (literals.plus x.0)) None)) xs) ≤ length (filter (is_numbered n) xs) + length (filter p xs)
  literals_few p [] = zero-le
  literals_few p (x ∷ xs) =
      one_more (x.0 == n) (p x) x (filter_map (λ (x : Entry). cond (x.0 == n) (Some (literals.minus x.0)) (cond (p x) (Some (literals.plus x.0)) None)) xs) (filter (is_numbered n) xs) (filter p xs) (literals_few p xs)

  none_numbered : (vars : List Variable) (from : ℕ) → n < from → length (filter (is_numbered n) (enumerate_from from vars)) ≡ 0
  none_numbered [] from l = omega arith
  none_numbered (v ∷ vars) from l =
      let rest = none_numbered vars (from + 1) (omega arith) in
      ap (λ b. length (cond b ((from, v) ∷ filter (is_numbered n) (enumerate_from (from + 1) vars)) (filter (is_numbered n) (enumerate_from (from + 1) vars)))) (ne_eqb from n (λ e. omega (arith, e))) ∙ rest

  one_numbered : (vars : List Variable) (from : ℕ) → length (filter (is_numbered n) (enumerate_from from vars)) ≤ 1
  one_numbered [] from = zero-le
  one_numbered (v ∷ vars) from =
      let later : List Entry = filter (is_numbered n) (enumerate_from (from + 1) vars) in
      elim (cases_Bool (from == n)) [
        | inl t ↦
            let is = eqb-true from n t in
            let none = none_numbered vars (from + 1) (omega (arith, is)) in
            let kept : length (cond (from == n) ((from, v) ∷ later) later) ≡ length ((from, v) ∷ later) = ap (λ b. length (cond b ((from, v) ∷ later) later)) t in
            omega (arith, none, kept)
        | inr f ↦
            let rest = one_numbered vars (from + 1) in
            let kept : length (cond (from == n) ((from, v) ∷ later) later) ≡ length later = ap (λ b. length (cond b ((from, v) ∷ later) later)) f in
            omega (arith, rest, kept)
      ]

  implication_few : (vars : List Variable) (p : Entry → Bool) → length (clause_of literals (is_numbered n) p vars) ≤ 1 + length (filter p (enumerate_from 1 vars))
  implication_few vars p =
      let all = literals_few p (enumerate_from 1 vars) in
      let one = one_numbered vars 1 in
      omega (arith, all, one)

-- ---- no cell is in the tiles of more than `most` variables

module _ (vars : List Variable) (most : ℕ) (bound : IsHoldersBound vars most) where
  covers_few : (k : ℕ) (c : Cell) → length (filter (covers k c) (enumerate_from 1 vars)) ≤ most
  covers_few k c =
      let fewer = no_more_pass (λ (x : Entry). has x.1.tile c) (covers k c) (λ x t. (and_parts (nat_le x.1.level k) (has x.1.tile c) t).1) (enumerate_from 1 vars) in
      let same = length-map (filter (λ (x : Entry). has x.1.tile c) (enumerate_from 1 vars)) (λ (x : Entry). x.0) in
      let all = bound.each c in
      omega (arith, fewer, same, all)

  pub covering_few : (k : ℕ) (c : Cell) → length (covering vars k c) ≤ most
  covering_few k c =
      let few = covers_few k c in
      let same = length-map (filter (covers k c) (enumerate_from 1 vars)) (λ (x : Entry). x.0) in
      omega (arith, few, same)

  first_few : (cells : List Cell) → formula_size (map (λ c. clause_of literals no_variable (covers 1 c) vars) cells) ≤ length cells * (most + 1)
  first_few cells =
      let f = λ (c : Cell). clause_of literals no_variable (covers 1 c) vars in
      let size = size_map_few f (most + 1) (λ c. let is = choice_size vars c in let few = covering_few 1 c in omega (arith, is, few)) cells in
      let long = ap (λ k. k * (most + 1)) (length-map cells f) in
      omega (arith, size, long)

  covering_at_few : (around : List Cell → List Cell) (shape : List Cell) (j : ℕ) (x : Entry) → formula_size (covering_at around shape j vars x) ≤ length (covering_at around shape j vars x) * (most + 1)
  covering_at_few around shape j x =
      let f = λ (c : Cell). clause_of literals (is_numbered x.0) (covers (x.1.level + 1) c) vars in
      let cells : List Cell = filter (λ c. not (has shape c)) (around x.1.tile) in
      let size = size_map_few f (most + 1) (λ c. let few = implication_few x.0 vars (covers (x.1.level + 1) c) in let all = covers_few (x.1.level + 1) c in omega (arith, few, all)) cells in
      elim (nat_lt x.1.level j) as (λ b. formula_size (cond b (map f cells) []) ≤ length (cond b (map f cells) []) * (most + 1)) [ true ↦ size | false ↦ zero-le ]

-- the clauses fit, where so many of families 1 and 2 as there are do with one literal more than a cell has holders, and those of family 3 into the rest
pub common_fits : (g : Geometry) (around : List Cell → List Cell) (u : Levels) (most : ℕ) → IsHoldersBound u.vars most → (first : List Cell) (counts : List ℕ) → first ≡ around u.shape → counts ≡ covering_counts around u →
    (size room : ℕ) → (length first + sum counts) * (most + 1) ≤ size → size ≤ room → formula_size (flat_map (support_at g u.vars) (enumerate_from 1 u.vars)) ≤ room - size → formula_size (common_of g around u) ≤ room
common_fits g around u most bound first counts first_is counts_are size room fits within rest =
    let covering : Clauses = flat_map (covering_at around u.shape u.level u.vars) (enumerate_from 1 u.vars) in
    let all = common_size g around u in
    let one = first_few u.vars most bound (around u.shape) in
    let long = ap (λ (cs : List Cell). length cs * (most + 1)) first_is in
    let two = size_flat_few (covering_at around u.shape u.level u.vars) (most + 1) (covering_at_few u.vars most bound around u.shape u.level) (enumerate_from 1 u.vars) in
    let count = ap (λ k. k * (most + 1)) (ap sum counts_are ∙ all_counted (covering_at around u.shape u.level u.vars) (enumerate_from 1 u.vars)) in
    let parts : (length first + sum counts) * (most + 1) ≡ length first * (most + 1) + sum counts * (most + 1) = omega arith in
    omega (arith, all, one, long, two, count, parts, fits, within, rest)

-- ---- the variables that support a tile

-- are found at the cells around it
pub supporting_most : (g : Geometry) → IsGrid g → (vars : List Variable) (level : ℕ) (tile ring : List Cell) → ListsExactly cell_before (IsAround g tile) ring → length (supporting g vars level tile) ≤ sum_by (λ c. length (covering vars level c)) ring
supporting_most g law vars level tile ring is_ring =
    let test = λ (x : Entry). x.1.level == level && touch g x.1.tile tile in
    let few = length-filter_any (covers level) test ring found (enumerate_from 1 vars) in
    let same = length-map (filter test (enumerate_from 1 vars)) (λ (x : Entry). x.0) in
    let all : sum_by (λ c. length (covering vars level c)) ring ≡ sum_by (λ c. length (filter (covers level c) (enumerate_from 1 vars))) ring = (λ i. sum_by (λ c. length-map (filter (covers level c) (enumerate_from 1 vars)) (λ (x : Entry). x.0) i) ring) in
    omega (arith, few, same, all)
  where
    found : (x : Entry) → (x.1.level == level && touch g x.1.tile tile) ≡ true → (c : Cell) × Contains ring c × (covers level c x ≡ true)
    found x t =
        let both = and_parts (x.1.level == level) (touch g x.1.tile tile) t in
        let is = eqb-true x.1.level level both.0 in
        let k = contact g x.1.tile tile both.1 in
        let out : ¬ Contains tile k.first = λ i. true≢false (sym (meet-is x.1.tile tile k.first k.in_first i) ∙ k.apart) in
        let in_ring : Contains ring k.first = is_ring.every k.first (record { outside = out; member = k.second; inside = k.in_second; touching = law.touching_back k.first k.second k.touching }) in
        (k.first, in_ring, and_from (nat_le x.1.level level) (has x.1.tile k.first) (le-leb x.1.level level (omega (arith, is))) (has-is x.1.tile k.first k.in_first))

-- so there are at most `most` for each of these cells
pub supporting_bound : (g : Geometry) → IsGrid g → (vars : List Variable) (most : ℕ) → IsHoldersBound vars most → (level : ℕ) (tile ring : List Cell) → ListsExactly cell_before (IsAround g tile) ring → length (supporting g vars level tile) ≤ length ring * most
supporting_bound g law vars most bound level tile ring is_ring =
    let few = supporting_most g law vars level tile ring is_ring in
    let all = sum_by-le (λ (c : Cell). length (covering vars level c)) most ring (λ k d l. covering_few vars most bound level (get_or ring k d)) in
    omega (arith, few, all)
