-- What holds of the corona formula of both versions.
use Rattle.std.proofs.Common.{ℕ, List, arith}
use Rattle.heesch_grid.specs.declared.Cell.{Cell}
use Rattle.heesch_grid.specs.Geometry.{Geometry}
use Rattle.heesch_grid.specs.CoronaFormula.{Variable, IsUniverse}
use Rattle.heesch_cnf.specs.declared.literal.Lit.{Lit}
use Rattle.heesch_cnf.specs.declared.version.Version.{Version}
use Rattle.heesch_grid.proofs.VersionFacts as grid
use Rattle.heesch_cert.specs.Literals.{literals}
use Rattle.heesch_cert.specs.Formulas.{version_number, IsCountedFormula}

-- its universe
pub universe_of : (version : Version) (g : Geometry) (shape : List Cell) (j : ℕ) (vars : List Variable) (count : ℕ) (clauses : List (List Lit)) → IsCountedFormula version g shape j vars count clauses → IsUniverse g shape j vars
universe_of version g shape j vars count clauses formula = grid.universe_of literals (version_number version) g shape j vars count clauses formula
