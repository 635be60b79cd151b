use Rattle.std.proofs.Common.{◌<◌, pos, sym, subst, arith}
use Rattle.std.specs.Prelude.{slice_index_or}
use Rattle.heesch_grid.specs.Cells.{cell}
use Rattle.heesch_shape.proofs.Loops.{has_at}
use Rattle.heesch_tiling.proofs.Tallies.{adds_next, repeats}
use Rattle.heesch_tiling.proofs.counts.mark_tile.Goals as goal

pub residue_number-k-requires-clause-near : goal.residue_number-k-requires-clause-near
residue_number-k-requires-clause-near g c = c.requires.cells (slice_index_or c.args.cells.now c.loop-c.c-index (cell (pos 0) (pos 0))) (has_at c.args.cells.now c.loop-c.c-index (cell (pos 0) (pos 0)) c.loop-c-test.true)

pub loop-c-preserved : goal.loop-c-preserved
loop-c-preserved g c =
    adds_next g.G.Grid.geometry g.met.G.Grid.laws c.args.triple c.residue_number-k.ensures.triple c.args.by c.args.cells.now c.loop-c.c-index (cell (pos 0) (pos 0)) c.loop-c-test.true c.args.marks.now c.loop-c.marks c.requires.all c.loop-c.invariant
    c.residue_number-k.result c.residue_number-k.ensures.is c.residue_number-k.ensures.below 1 (omega (arith, c.if-marks-k-ne0.false))

pub returns-then-marks-k-ne0-clause-repeated : goal.returns-then-marks-k-ne0-clause-repeated
returns-then-marks-k-ne0-clause-repeated g c =
    let geometry = g.G.Grid.geometry in
    let e = c.residue_number-k.ensures in
    λ _. repeats geometry c.args.triple c.args.by c.args.cells.now c.args.marks.now c.loop-c.marks c.loop-c.c-index (cell (pos 0) (pos 0)) c.residue_number-k.result c.loop-c-test.true c.loop-c.invariant (subst (λ n. c.residue_number-k.result < n) (sym c.requires.all) e.below) e.is e.reduced (omega (arith, c.if-marks-k-ne0.true))
