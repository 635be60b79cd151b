use Rattle.heesch_grid.proofs.VersionFacts.{versions_are_satisfiable_where_coronas}
use Rattle.heesch_grid.proofs.laws.versions_are_satisfiable_where_coronas.Goals as goal

pub returns : goal.returns
returns g c = versions_are_satisfiable_where_coronas _
