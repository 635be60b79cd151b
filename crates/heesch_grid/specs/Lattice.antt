-- The lattice of a triple, and triples in order.
-- The two vectors are the Hermite normal form of a lattice of translations.
use Rattle.std.specs.Prelude.{◌≡◌, ℕ, ◌*◌, ◌<◌, ◌≤◌, ℤ, pos, ◌+ℤ◌, ◌*ℤ◌, ◌≤ℤ◌, ◌<ℤ◌, Bool, ◌&&◌, ◌||◌, nat_lt, ◌==◌}
use Rattle.heesch_grid.specs.declared.Cell.{Cell}
use Rattle.heesch_grid.specs.Geometry.{Geometry, IsCell, moved}
use Rattle.heesch_grid.specs.Polyform.{floor_div}

-- the lattice of (p, 0) and (s, q), in units
pub record Triple : Type 0 where
  pub p : ℕ
  pub q : ℕ
  pub s : ℕ

-- p and q are at least 1, and s is below p
pub record IsTriple (t : Triple) : Type 0 where
  pub p_positive : 1 ≤ t.p
  pub q_positive : 1 ≤ t.q
  pub s_below : t.s < t.p

-- the triple is one of the domain of m tiles of n cells
pub record IsTripleOfDomain (g : Geometry) (n m : ℕ) (t : Triple) : Type 0 where
  pub is_triple : IsTriple t
  pub area : g.per * (t.p * t.q) ≡ n * m

-- the order of the triples of one area: by p, then by s
abbrev pub triple_before : Triple → Triple → Bool
triple_before t u = nat_lt t.p u.p || (t.p == u.p && nat_lt t.s u.s)

-- the cell moved by i times (p, 0) and j times (s, q), in units
abbrev pub translated : Geometry → Triple → ℤ → ℤ → Cell → Cell
translated g t i j c = moved g (i *ℤ pos t.p +ℤ j *ℤ pos t.s) (j *ℤ pos t.q) c

-- the second cell is the first moved by a lattice vector
pub record DiffersByLattice (g : Geometry) (t : Triple) (c d : Cell) : Type 0 where
  pub i : ℤ
  pub j : ℤ
  pub is : d ≡ translated g t i j c

-- the cell's unit (floor(a / unit), floor(b / unit)) is at least (0, 0), and below p and q
pub record IsReduced (g : Geometry) (t : Triple) (c : Cell) : Type 0 where
  pub in_grid : IsCell g c
  pub a_from : pos 0 ≤ℤ floor_div c.a g.unit
  pub a_below : floor_div c.a g.unit <ℤ pos t.p
  pub b_from : pos 0 ≤ℤ floor_div c.b g.unit
  pub b_below : floor_div c.b g.unit <ℤ pos t.q
