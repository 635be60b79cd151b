use Rattle.heesch_tori.proofs.Bits.{NoneBefore}
use Rattle.heesch_tori.proofs.rows.have_common_bit.Given as goal

abbrev pub invariant-loop-k : goal.invariant-loop-k
invariant-loop-k l = NoneBefore l.words l.width l.at l.other l.k
