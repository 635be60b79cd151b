use Rattle.heesch_place.proofs.Marks.{IsListed}
use Rattle.heesch_place.proofs.spots.SpotMarks.spots.Given as goal

abbrev pub invariant-loop-place : goal.invariant-loop-place
invariant-loop-place l = IsListed l.self l.place l.spots.items
