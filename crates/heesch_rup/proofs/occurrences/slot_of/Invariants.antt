use Rattle.std.proofs.Common.{◌≡◌, ◌<◌, drop, length}
use Rattle.heesch_rup.specs.Listed.{rarest, slot_of}
use Rattle.heesch_rup.proofs.occurrences.slot_of.Given as goal

abbrev pub invariant-loop-lit : goal.invariant-loop-lit
invariant-loop-lit l = record {
  fits : l.rarest < length l.counts;
  same : rarest l.counts l.rarest (drop l.lit-index l.clause) ≡ slot_of l.counts l.clause;
}
