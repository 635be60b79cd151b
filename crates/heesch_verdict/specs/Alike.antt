-- Triples whose lattices a turn carries to each other.
use Rattle.std.specs.Prelude.{ℕ, ◌<◌, List, Contains}
use Rattle.heesch_grid.specs.Geometry.{Geometry}
use Rattle.heesch_grid.specs.Lattice.{Triple, IsTriple}
use Rattle.heesch_lattice.specs.Turned.{TurnsOnto}

-- a turn carries the lattice of the triple onto that of one of these
pub record IsAlikeOne (g : Geometry) (t : Triple) (others : List Triple) : Type 0 where
  pub turn : ℕ
  pub below : turn < g.turns
  pub other : Triple
  pub is_triple : IsTriple other
  pub among : Contains others other
  pub onto : TurnsOnto g turn t other
