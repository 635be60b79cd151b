use Rattle.heesch_text.proofs.Tiles.{Writes}
use Rattle.heesch_text.proofs.evidence.append_tiles.Given as goal

abbrev pub invariant-loop-i : goal.invariant-loop-i
invariant-loop-i l = Writes l.fn.out.items l.out.items l.i l.places l.members
