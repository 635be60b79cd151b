use Rattle.heesch_grid.proofs.FromDefinitions.{corona_formulas_are_unique, torus_formulas_are_unique}
use Rattle.heesch_grid.proofs.VersionFacts.{formulas_of_versions_are_unique}
use Rattle.heesch_grid.proofs.laws.formulas_are_unique.Goals as goal

pub returns : goal.returns
returns g c = record { corona = corona_formulas_are_unique _; versions = formulas_of_versions_are_unique _; torus = torus_formulas_are_unique _ }
