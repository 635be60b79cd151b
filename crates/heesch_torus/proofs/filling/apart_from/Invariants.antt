use Rattle.std.proofs.Common.{◌≡◌, filter, take}
use Rattle.std.specs.Prelude.{◌==◌}
use Rattle.std.specs.Int.Bits.{bit_and}
use Rattle.heesch_torus.proofs.filling.apart_from.Given as goal

abbrev pub invariant-loop-mask : goal.invariant-loop-mask
invariant-loop-mask l = l.apart.items ≡ filter (λ m. bit_and m l.first == 0) (take l.mask-index l.masks)
