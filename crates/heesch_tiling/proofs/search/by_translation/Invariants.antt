use Rattle.heesch_tiling.specs.Search.{IsSearch, CoversAlone}
use Rattle.heesch_tiling.proofs.search.by_translation.Given as goal

abbrev pub invariant-loop-triple : goal.invariant-loop-triple
invariant-loop-triple g l = IsSearch l.area (CoversAlone g.G.Grid.geometry l.cells) l.triple-iterator
