-- Triples as the code keeps them, and pairs whose unit is reduced.
use Rattle.std.specs.Prelude.{ℕ, ◌*◌, ◌≤◌, pos, ◌≤ℤ◌, ◌<ℤ◌}
use Rattle.heesch_grid.specs.declared.Cell.{Cell}
use Rattle.heesch_grid.specs.Geometry.{Geometry}
use Rattle.heesch_grid.specs.Polyform.{floor_div}
use Rattle.heesch_grid.specs.Lattice.{Triple, IsTriple}

-- the triple of these numbers
abbrev pub lattice : ℕ → ℕ → ℕ → Triple
lattice p q s = record { p = p; q = q; s = s }

-- the triple is one of at most 4,096 units
pub record IsSmallTriple (t : Triple) : Type 0 where
  pub is_triple : IsTriple t
  pub small : t.p * t.q ≤ 4096

-- the pair's unit is at least (0, 0), and below p and q; the pair may be none of the grid's cells
pub record HasReducedUnit (g : Geometry) (t : Triple) (c : Cell) : Type 0 where
  pub a_from : pos 0 ≤ℤ floor_div c.a g.unit
  pub a_below : floor_div c.a g.unit <ℤ pos t.p
  pub b_from : pos 0 ≤ℤ floor_div c.b g.unit
  pub b_below : floor_div c.b g.unit <ℤ pos t.q
