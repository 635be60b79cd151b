use Rattle.heesch_grid.proofs.VersionFacts.{owners_keep_models, universe_clauses_agree}
use Rattle.heesch_grid.proofs.laws.owners_keep_models.Goals as goal

pub returns : goal.returns
returns g c = record { models = owners_keep_models _; clauses = universe_clauses_agree _ }
