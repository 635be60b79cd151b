use Rattle.std.proofs.Common.{◌<◌, ◌+◌, List, length, take, pos, sym, subst, arith}
use Rattle.heesch_grid.specs.Cells.{cell}
use Rattle.std.specs.Prelude.{ℕ}
use Rattle.heesch_torus.specs.Covering.{AddsNumber}
use Rattle.heesch_torus.proofs.Numbering.{adds_cell}
use Rattle.heesch_torus.proofs.covering.add_variable.Goals as goal

pub loop-c-preserved : goal.loop-c-preserved
loop-c-preserved g c =
    let below : c.number_of.result < length c.loop-c.lists = omega (arith, c.number_of.ensures.below, c.requires.all, c.loop-c.auto.lists) in
    subst (λ (ls : List (List ℕ)). AddsNumber g.G.Grid.geometry c.args.triple (take (c.loop-c.c-index + 1) c.args.cells.now) c.args.variable c.args.lists.now ls) (sym c.in_ok-add_to.ensures)
    (adds_cell g.G.Grid.geometry c.args.triple g.met.G.Grid.laws c.requires.triple c.args.cells.now c.loop-c.c-index (cell (pos 0) (pos 0)) c.args.variable c.number_of.result c.args.lists.now c.loop-c.lists c.requires.cells.rising c.loop-c-test.true below c.number_of.ensures.is c.loop-c.invariant)
