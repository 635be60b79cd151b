use Rattle.std.proofs.Common.{take}
use Rattle.heesch_tiling.specs.Counting.{tile_residues, AddsCounts}
use Rattle.heesch_tiling.proofs.counts.count_tile.Given as goal

abbrev pub invariant-loop-c : goal.invariant-loop-c
invariant-loop-c g l = AddsCounts g.G.Grid.geometry l.triple (tile_residues g.G.Grid.geometry (take l.c-index l.cells) l.triple l.by) l.initial.counts l.counts
