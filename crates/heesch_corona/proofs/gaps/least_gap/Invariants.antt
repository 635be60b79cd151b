use Rattle.heesch_corona.specs.Searches.{IsLeastWith, is_gap}
use Rattle.heesch_corona.proofs.gaps.least_gap.Given as goal

abbrev pub invariant-loop-at : goal.invariant-loop-at
invariant-loop-at g l = IsLeastWith (is_gap g.G.Grid.geometry l.index l.at l.outer) l.least
