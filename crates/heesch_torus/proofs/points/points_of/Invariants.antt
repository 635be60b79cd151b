use Rattle.heesch_torus.proofs.Masking.{Numbered}
use Rattle.heesch_torus.proofs.points.points_of.Given as goal

abbrev pub invariant-loop-k : goal.invariant-loop-k
invariant-loop-k g l = Numbered g.G.Grid.geometry l.triple l.k l.numbers.items l.count
