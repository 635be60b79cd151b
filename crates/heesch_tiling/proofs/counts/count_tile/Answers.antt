use Rattle.std.proofs.Common.{◌<◌, ◌+◌, length, take, pos, refl, sym, subst, arith}
use Rattle.std.specs.Prelude.{slice_index_or}
use Rattle.heesch_grid.specs.Cells.{cell}
use Rattle.heesch_shape.proofs.Loops.{has_at}
use Rattle.heesch_tiling.specs.Counting.{tile_residues, in_window}
use Rattle.heesch_tiling.proofs.Tallies.{adds_next, tile_length, times_few}
use Rattle.heesch_tiling.proofs.counts.count_tile.Goals as goal

pub residue_number-k-requires-clause-near : goal.residue_number-k-requires-clause-near
residue_number-k-requires-clause-near g c = c.requires.cells (slice_index_or c.args.cells.now c.loop-c.c-index (cell (pos 0) (pos 0))) (has_at c.args.cells.now c.loop-c.c-index (cell (pos 0) (pos 0)) c.loop-c-test.true)

pub loop-c-preserved : goal.loop-c-preserved
loop-c-preserved g c =
    adds_next g.G.Grid.geometry g.met.G.Grid.laws c.args.triple c.residue_number-k.ensures.triple c.args.by c.args.cells.now c.loop-c.c-index (cell (pos 0) (pos 0)) c.loop-c-test.true c.args.counts.now c.loop-c.counts c.requires.all c.loop-c.invariant
    c.residue_number-k.result c.residue_number-k.ensures.is c.residue_number-k.ensures.below (slice_index_or c.loop-c.counts c.residue_number-k.result 0 + 1) refl

pub overflow_add-counts : goal.overflow_add-counts
overflow_add-counts g c =
    let geometry = g.G.Grid.geometry in
    let t = c.args.triple in
    let cells = c.args.cells.now in
    let i = c.loop-c.c-index in
    let k = c.residue_number-k.result in
    let below : c.residue_number-k.result < length c.args.counts.now = subst (λ n. c.residue_number-k.result < n) (sym c.requires.all) c.residue_number-k.ensures.below in
    let count = c.loop-c.invariant.each k below in
    let few = times_few (tile_residues geometry (take i cells) t c.args.by) (in_window geometry t k) in
    let so_far = tile_length geometry t c.args.by cells i c.loop-c-test.true in
    let room = c.requires.room k below in
    omega (arith, count, few, so_far, room, c.loop-c-test.true)
