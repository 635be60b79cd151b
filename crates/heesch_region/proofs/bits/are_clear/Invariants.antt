use Rattle.std.proofs.Common.{◌≡◌, ◌<◌, ◌≤◌, ◌*◌, ℕ}
use Rattle.heesch_region.specs.Bits.{bit_of}
use Rattle.heesch_region.proofs.bits.are_clear.Given as goal

abbrev pub invariant-loop-k : goal.invariant-loop-k
invariant-loop-k l = (n : ℕ) → 64 * l.from ≤ n → n < 64 * l.k → bit_of l.words n ≡ 1 → bit_of l.taken n ≡ 1
