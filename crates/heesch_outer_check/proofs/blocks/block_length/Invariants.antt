use Rattle.heesch_outer_check.proofs.Cutting.{GoesOn}
use Rattle.heesch_outer_check.proofs.blocks.block_length.Given as goal

abbrev pub invariant-loop-i : goal.invariant-loop-i
invariant-loop-i l = GoesOn l.bytes l.i
