-- Sizes of clauses that come in pieces, up to a bound.
use Rattle.std.proofs.Common.{◌≡◌, refl, ap, ℕ, ◌+◌, ◌<◌, ◌≤◌, List, [], ◌∷◌, ◌++◌, map, length, get_or, take, arith}
use Rattle.std.specs.Prelude.{flat_map, min, sum_by}
use Rattle.std.proofs.lemmas.List.{take_all}
use Rattle.std.proofs.lemmas.List.Sums.{sum_by-cons, sum_by-append, sum_by_more, sum_by-take-le}
use Rattle.heesch_cnf.specs.declared.literal.Lit.{Lit}
use Rattle.std.specs.List.{enumerate_from}
use Rattle.heesch_grid.specs.declared.Cell.{Cell}
use Rattle.heesch_grid.specs.Geometry.{Geometry}
use Rattle.heesch_grid.specs.Clauses.{formula_size}
use Rattle.heesch_grid.specs.CoronaFormula.{first_clauses, covering_clauses, support_clauses}
use Rattle.heesch_cert.specs.Literals.{literals}
use Rattle.heesch_place.specs.Universes.{Levels}
use Rattle.heesch_encode.specs.Families.{covering_at, support_at}
use Rattle.heesch_encode.proofs.Pieces.{covering_family, support_family}
use Rattle.heesch_numbers.specs.Common.{common_of}

abbrev Clauses : Type 0
Clauses = List (List Lit)

module _ {X : Type 0} (f : X → ℕ) (xs : List X) (i : ℕ) (d : X) (less : i < length xs) (most size : ℕ) (is : size ≡ min (sum_by f (take i xs)) most) where
  -- one piece more, and one that is known up to the bound
  pub min_more : (piece next : ℕ) → piece ≡ f (get_or xs i d) → next ≡ min (size + piece) most → next ≡ min (sum_by f (take (i + 1) xs)) most
  min_more piece next p n = let s = sum_by_more f xs i d less in omega (arith, s, p, n, is)

  pub min_more_capped : (piece next : ℕ) → piece ≡ min (f (get_or xs i d)) most → next ≡ min (size + piece) most → next ≡ min (sum_by f (take (i + 1) xs)) most
  min_more_capped piece next p n = let s = sum_by_more f xs i d less in omega (arith, s, p, n, is)

  pub min_none : 0 ≡ f (get_or xs i d) → size ≡ min (sum_by f (take (i + 1) xs)) most
  min_none p = let s = sum_by_more f xs i d less in omega (arith, s, p, is)

-- where the bound is reached, it is by all
pub min_full : {X : Type 0} (f : X → ℕ) (xs : List X) (i most size : ℕ) → size ≡ min (sum_by f (take i xs)) most → size ≡ most → most ≡ min (sum_by f xs) most
min_full f xs i most size is full = let s = sum_by-take-le f xs i in omega (arith, s, is, full)

pub min_whole : {X : Type 0} (f : X → ℕ) (xs : List X) (i most size : ℕ) → length xs ≤ i → size ≡ min (sum_by f (take i xs)) most → size ≡ min (sum_by f xs) most
min_whole f xs i most size l is = let w = ap (sum_by f) (take_all i xs l) in omega (arith, w, is)

-- the size of clauses that come in pieces
pub size_pieces : {X : Type 0} (f : X → Clauses) (xs : List X) → formula_size (flat_map f xs) ≡ sum_by (λ x. formula_size (f x)) xs
size_pieces f [] = refl
size_pieces f (x ∷ xs) =
    let s = sum_by-append length (f x) (flat_map f xs) in
    let t = sum_by-cons (λ x. formula_size (f x)) x xs in
    let r = size_pieces f xs in
    omega (arith, s, t, r)

pub size_map : {X : Type 0} (f : X → List Lit) (xs : List X) → formula_size (map f xs) ≡ sum_by (λ x. length (f x)) xs
size_map f [] = refl
size_map f (x ∷ xs) =
    let s = sum_by-cons length (f x) (map f xs) in
    let t = sum_by-cons (λ x. length (f x)) x xs in
    let r = size_map f xs in
    omega (arith, s, t, r)

-- the size of a piece that has its clause, and of one that has none
pub size_one : (clause : List Lit) → formula_size (clause ∷ []) ≡ length clause
size_one clause = let s = sum_by-cons length clause [] in omega (arith, s)

-- the size of families 1 to 3, of which the second and the third come by variables
pub common_size : (g : Geometry) (around : List Cell → List Cell) (u : Levels) →
    formula_size (common_of g around u) ≡ formula_size (first_clauses literals around u.shape u.vars) + formula_size (flat_map (covering_at around u.shape u.level u.vars) (enumerate_from 1 u.vars)) + formula_size (flat_map (support_at g u.vars) (enumerate_from 1 u.vars))
common_size g around u =
    let first : Clauses = first_clauses literals around u.shape u.vars in
    let covering : Clauses = covering_clauses literals around u.shape u.level u.vars in
    let support : Clauses = support_clauses literals g u.vars in
    let a = sum_by-append length (first ++ covering) support in
    let b = sum_by-append length first covering in
    let c = ap formula_size (covering_family g around u.shape u.level u.vars) in
    let d = ap formula_size (support_family g around u.shape u.level u.vars) in
    omega (arith, a, b, c, d)
