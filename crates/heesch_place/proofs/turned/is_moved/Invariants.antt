use Rattle.std.proofs.Common.{◌≡◌, map, take}
use Rattle.heesch_grid.specs.Vectors.{plus}
use Rattle.heesch_place.proofs.turned.is_moved.Given as goal

abbrev pub invariant-loop-i : goal.invariant-loop-i
invariant-loop-i l = take l.i l.to ≡ map (plus l.step) (take l.i l.from)
