use Rattle.std.proofs.Common.{◌≡◌, ◌<◌, ◌*◌, true, false, sum}
use Rattle.heesch_region.specs.Bits.{AreNarrowed, AreSettled}
use Rattle.heesch_region.proofs.bits.narrow.Given as goal

abbrev pub invariant-loop-k : goal.invariant-loop-k
invariant-loop-k l = record {
  bits : AreNarrowed l.allowed l.to l.from l.count l.initial.words l.words;
  fewer : l.cleared ≡ true → sum l.words < sum l.initial.words;
  same : l.cleared ≡ false → l.words ≡ l.initial.words;
  settled : l.cleared ≡ false → AreSettled l.allowed l.initial.words l.to l.from (64 * l.k);
}
