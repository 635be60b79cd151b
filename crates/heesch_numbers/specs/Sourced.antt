-- The second corona formula as a source of clauses.
use Rattle.std.specs.Prelude.{◌≤◌, ◌^◌, List, length}
use Rattle.heesch_cnf.specs.Flat.{Clauses}
use Rattle.heesch_grid.specs.declared.Cell.{Cell}
use Rattle.heesch_grid.specs.Geometry.{Geometry}
use Rattle.heesch_grid.specs.OwnerFormula.{owned_corona_clauses}
use Rattle.heesch_grid.proofs.AroundFacts.{cells_around}
use Rattle.heesch_cert.specs.Literals.{literals}
use Rattle.heesch_place.specs.Universes.{Levels}
use Rattle.heesch_numbers.specs.declared.owners.OwnerClauses.{OwnerClauses}
use Rattle.heesch_numbers.specs.OwnerCounts.{AreOwners, vars_with}

-- the formula of a universe and of the cells that several of its variables have
unfoldable pub owned_formula : Geometry → Levels → List Cell → Clauses
owned_formula g u owned = record { vars = vars_with u.vars owned; clauses = owned_corona_clauses literals g (cells_around g) u.shape u.level u.vars owned }

-- what contracts see of a source: the universe, and the formula over it
pub record Sourced : Type 0 where
  pub universe : Levels
  pub formula : Clauses

-- the counts are those of the universe, and its formula has at most 2^31 clauses
pub record IsSource (g : Geometry) (u : Levels) (o : OwnerClauses) : Type 0 where
  pub owners : AreOwners u.vars o
  pub few : length (owned_formula g u o.cells.items).clauses ≤ 2 ^ 31
