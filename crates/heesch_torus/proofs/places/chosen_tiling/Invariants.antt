use Rattle.std.proofs.Common.{◌≡◌, take}
use Rattle.heesch_torus.specs.Chosen.{chosen_places}
use Rattle.heesch_torus.proofs.places.chosen_tiling.Given as goal

abbrev pub invariant-loop-at : goal.invariant-loop-at
invariant-loop-at l = l.places ≡ chosen_places l.values (take l.at l.variables)
