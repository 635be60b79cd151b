-- The first corona formula as a source of clauses.
use Rattle.std.specs.Prelude.{◌≡◌, ℕ, ◌≤◌, ◌^◌, List, length}
use Rattle.heesch_cnf.specs.Flat.{Clauses}
use Rattle.heesch_grid.specs.Geometry.{Geometry}
use Rattle.heesch_grid.specs.CoronaFormula.{corona_clauses}
use Rattle.heesch_grid.proofs.AroundFacts.{cells_around}
use Rattle.heesch_cert.specs.Literals.{literals}
use Rattle.heesch_place.specs.Universes.{Levels}
use Rattle.heesch_pairwise.specs.Pairs.{pair_counts}

-- the formula of a universe
unfoldable pub pairwise_formula : Geometry → Levels → Clauses
pairwise_formula g u = record { vars = length u.vars; clauses = corona_clauses literals g (cells_around g) u.shape u.level u.vars }

-- the counts are those of the universe, and its formula has at most 2^31 clauses
pub record IsPairwise (g : Geometry) (u : Levels) (counts : List ℕ) : Type 0 where
  pub counts_are : counts ≡ pair_counts u.vars
  pub few : length (pairwise_formula g u).clauses ≤ 2 ^ 31
