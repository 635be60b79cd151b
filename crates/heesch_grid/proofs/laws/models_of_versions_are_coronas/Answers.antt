use Rattle.heesch_grid.proofs.VersionFacts.{models_of_versions_are_coronas}
use Rattle.heesch_grid.proofs.laws.models_of_versions_are_coronas.Goals as goal

pub returns : goal.returns
returns g c = models_of_versions_are_coronas _
