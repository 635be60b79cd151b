use Rattle.std.proofs.Common.{◌≡◌, ◌+◌, take}
use Rattle.heesch_place.specs.Found.{FromOne, Joins}
use Rattle.heesch_place.specs.Spots.{IsSet}
use Rattle.heesch_place.proofs.spots.set_all.Given as goal

abbrev pub invariant-loop-offset : goal.invariant-loop-offset
invariant-loop-offset l =
    Joins (FromOne (λ offset place. place ≡ l.base + offset) (take l.offset-index l.offsets)) (IsSet l.fn.marks) (IsSet l.marks)
