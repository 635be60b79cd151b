use Rattle.std.proofs.Common.{◌++◌, ap, ◌∙◌, arith}
use Rattle.std.specs.List.{enumerate_from}
use Rattle.heesch_cuts.specs.Patches.{layer_cells}
use Rattle.heesch_cuts.proofs.PatchCells.{layer_step, layer_all, layer_is}
use Rattle.heesch_cuts.proofs.patches.add_layer.Goals as goal

pub returns-in_err-add_tile-clause-within : goal.returns-in_err-add_tile-clause-within
returns-in_err-add_tile-clause-within g c = λ h. c.in_err-add_tile.ensures.within (c.loop-i.invariant.1 h)

pub loop-i-preserved : goal.loop-i-preserved
loop-i-preserved g c =
    let e = c.in_ok-add_tile.ensures in (
      layer_step (layer_cells c.args.model.now c.args.level) c.args.universe.now.vars c.loop-i.i c.args.cells.now.items c.loop-i.cells.items c.add_tile.new.cells.items (let n = c.count-i-end.ensures.count in omega (arith, n, c.loop-i-test.true)) c.loop-i.invariant.0 e.cells,
      (λ h. e.within (c.loop-i.invariant.1 h)),
    )

pub returns-clause-cells : goal.returns-clause-cells
returns-clause-cells g c =
    let vars = c.args.universe.now.vars in
    let F = layer_cells c.args.model.now c.args.level in
    let i = c.loop-i.i in
    let old = c.args.cells.now.items in
    c.loop-i.invariant.0 ∙ ap (λ xs. old ++ xs) (layer_all F vars i (let e = c.count-i-end.ensures.count in omega (arith, e, c.loop-i-test.false)) ∙ layer_is c.args.model.now c.args.level (enumerate_from 1 vars))
