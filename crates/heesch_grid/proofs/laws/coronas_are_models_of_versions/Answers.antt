use Rattle.heesch_grid.proofs.VersionFacts.{coronas_are_models_of_versions}
use Rattle.heesch_grid.proofs.laws.coronas_are_models_of_versions.Goals as goal

pub returns : goal.returns
returns g c = coronas_are_models_of_versions _
