use Rattle.std.proofs.Common.{◌≡◌, ◌-◌, ℕ, min, take}
use Rattle.std.specs.Int.{bit_at}
use Rattle.heesch_exact.specs.Branches.{times}
use Rattle.heesch_exact.proofs.counts.Counts.of.Given as goal

abbrev pub invariant-loop-number : goal.invariant-loop-number
invariant-loop-number l = record {
  one : (k : ℕ) → bit_at l.one k ≡ min 1 (times l.masks (take l.number-index l.numbers) k);
  two : (k : ℕ) → bit_at l.two k ≡ min 1 (times l.masks (take l.number-index l.numbers) k - 1);
  three : (k : ℕ) → bit_at l.three k ≡ min 1 (times l.masks (take l.number-index l.numbers) k - 2);
}
