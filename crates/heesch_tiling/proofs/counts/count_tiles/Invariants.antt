use Rattle.std.proofs.Common.{take}
use Rattle.heesch_tiling.specs.Counting.{residues, AreCounts}
use Rattle.heesch_tiling.proofs.counts.count_tiles.Given as goal

abbrev pub invariant-loop-by : goal.invariant-loop-by
invariant-loop-by g l = AreCounts g.G.Grid.geometry l.triple (residues g.G.Grid.geometry l.cells l.triple (take l.by-index l.places)) l.counts
