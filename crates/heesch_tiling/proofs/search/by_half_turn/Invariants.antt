use Rattle.heesch_tiling.specs.Search.{IsSearch, HasShift}
use Rattle.heesch_tiling.proofs.search.by_half_turn.Given as goal

abbrev pub invariant-loop-triple : goal.invariant-loop-triple
invariant-loop-triple g l = IsSearch l.area (HasShift g.G.Grid.geometry l.cells) l.triple-iterator
