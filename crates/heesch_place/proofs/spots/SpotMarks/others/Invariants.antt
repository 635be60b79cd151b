use Rattle.std.proofs.Common.{◌≡◌, filter, not, take}
use Rattle.heesch_place.specs.Spots.{has_mark}
use Rattle.heesch_place.proofs.spots.SpotMarks.others.Given as goal

abbrev pub invariant-loop-spot : goal.invariant-loop-spot
invariant-loop-spot l = l.kept.items ≡ filter (λ s. not (has_mark l.self s)) (take l.spot-index l.spots)
