-- The triples of an area, in order.
use Rattle.std.specs.Prelude.{◌≡◌, ◌≤◌, ℕ, zero, suc, ◌+◌, ◌-◌, ◌*◌, ◌/◌, ◌%◌, ◌==◌, List, [], ◌∷◌, ◌++◌, cond}
use Rattle.heesch_grid.specs.Listing.{ListsExactly}
use Rattle.heesch_grid.specs.Lattice.{Triple, IsTriple, triple_before}
use Rattle.heesch_lattice.specs.Reduction.{lattice}

-- n triples of p columns, from s on
abbrev pub row_from : ℕ → ℕ → ℕ → ℕ → List Triple
row_from area p s zero = []
row_from area p s (suc n) = lattice p (area / p) s ∷ row_from area p (suc s) n

-- the triples of p columns of the area, from s on
abbrev pub row : ℕ → ℕ → ℕ → List Triple
row area p s = cond (area % p == 0) (row_from area p s (p - s)) []

-- the triples of p columns, of p + 1 and so on, n times
abbrev pub rows_from : ℕ → ℕ → ℕ → List Triple
rows_from area p zero = []
rows_from area p (suc n) = row area p 0 ++ rows_from area (suc p) n

-- the triples of the area from p columns and s on
abbrev pub triples_from : ℕ → ℕ → ℕ → List Triple
triples_from area p s = row area p s ++ rows_from area (suc p) (area - p)

-- the triple is one of the area
pub record IsTripleOfArea (area : ℕ) (t : Triple) : Type 0 where
  pub is_triple : IsTriple t
  pub product : t.p * t.q ≡ area

-- the list has each triple of the area once, by p and then by s
abbrev pub AreTriples : ℕ → List Triple → Type 0
AreTriples area ts = ListsExactly triple_before (IsTripleOfArea area) ts

-- the area is one of a triple, and p goes from 1 to just above it
pub record IsWithinArea (area p : ℕ) : Type 0 where
  pub some : 1 ≤ area
  pub few : area ≤ 4096
  pub positive : 1 ≤ p
  pub below : p ≤ area + 1
