use Rattle.std.proofs.Common.{◌≡◌, map, take}
use Rattle.heesch_grid.specs.Vectors.{plus}
use Rattle.heesch_encode.proofs.around.write_moved.Given as goal

abbrev pub invariant-loop-c : goal.invariant-loop-c
invariant-loop-c g l = l.ring.items ≡ map (plus l.step) (take l.c-index l.c-items)
