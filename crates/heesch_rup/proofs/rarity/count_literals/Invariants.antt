use Rattle.std.proofs.Common.{◌≡◌, length}
use Rattle.heesch_rup.proofs.rarity.count_literals.Given as goal

abbrev pub invariant-loop-lit : goal.invariant-loop-lit
invariant-loop-lit l = length l.counts ≡ length l.fn.counts
