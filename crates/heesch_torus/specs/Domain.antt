-- Triples of the domains that are searched.
use Rattle.std.specs.Prelude.{ℕ, ◌≤◌}
use Rattle.heesch_grid.specs.Geometry.{Geometry}
use Rattle.heesch_grid.specs.Lattice.{Triple, IsTripleOfDomain}

-- the triple is one of a domain of 1 to 12 tiles of so many cells
pub record HasDomain (g : Geometry) (count : ℕ) (t : Triple) : Type 0 where
  pub tiles : ℕ
  pub some : 1 ≤ tiles
  pub few : tiles ≤ 12
  pub of_domain : IsTripleOfDomain g count tiles t
