use Rattle.std.proofs.Common.{take, Contains}
use Rattle.heesch_place.specs.Spots.{AreNumbers, seen_from, spot_place, width}
use Rattle.heesch_place.proofs.spots.SpotMarks.offsets.Given as goal

abbrev pub invariant-loop-spot : goal.invariant-loop-spot
invariant-loop-spot l =
    AreNumbers (Contains (take l.spot-index l.spots)) (λ s. spot_place (width l.self.radius) l.reach l.self.forms (seen_from l.from s)) l.offsets.items
