use Rattle.std.proofs.Common.{pos}
use Rattle.std.specs.Prelude.{slice_index_or}
use Rattle.heesch_grid.specs.Cells.{cell}
use Rattle.heesch_shape.proofs.Loops.{has_at}
use Rattle.heesch_torus.proofs.residues.reduced_image.Goals as goal

pub residue_of-requires-clause-near : goal.residue_of-requires-clause-near
residue_of-requires-clause-near g c = c.args.tiles.now.near (slice_index_or c.args.tiles.now.cells.now c.loop-c.c-index (cell (pos 0) (pos 0))) (has_at c.args.tiles.now.cells.now c.loop-c.c-index (cell (pos 0) (pos 0)) c.loop-c-test.true)
