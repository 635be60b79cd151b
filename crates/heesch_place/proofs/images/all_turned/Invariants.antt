use Rattle.heesch_place.proofs.Moving.{TurnedBelow}
use Rattle.heesch_place.proofs.images.all_turned.Given as goal

abbrev pub invariant-loop-k : goal.invariant-loop-k
invariant-loop-k g l = TurnedBelow g.G.Grid.geometry l.shape l.k l.all.items
