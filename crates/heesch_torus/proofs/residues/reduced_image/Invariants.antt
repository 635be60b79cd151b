use Rattle.std.proofs.Common.{◌≡◌, take}
use Rattle.heesch_tiling.specs.Counting.{tile_residues}
use Rattle.heesch_torus.proofs.residues.reduced_image.Given as goal

abbrev pub invariant-loop-c : goal.invariant-loop-c
invariant-loop-c g l = l.residues.items ≡ tile_residues g.G.Grid.geometry (take l.c-index l.tiles.cells.now) l.tiles.triple l.by.iso
