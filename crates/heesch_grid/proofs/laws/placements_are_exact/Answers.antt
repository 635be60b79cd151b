use Rattle.heesch_grid.proofs.FromDefinitions.{placements_touch_both_ways}
use Rattle.heesch_grid.proofs.SymmetryFacts.{translations_are_determined, least_isometries_are_unique}
use Rattle.heesch_grid.proofs.laws.placements_are_exact.Goals as goal

pub returns : goal.returns
returns c = record { touch = placements_touch_both_ways; translation = translations_are_determined; least = least_isometries_are_unique }
