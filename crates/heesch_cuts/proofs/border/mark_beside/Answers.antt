use Rattle.std.proofs.Common.{take, ◌∙◌}
use Rattle.heesch_cuts.specs.Patches.{IsBordered}
use Rattle.heesch_cuts.proofs.Neighbours.{more_neighbours, all_neighbours}
use Rattle.heesch_cuts.proofs.Bordering.{bordered_grows}
use Rattle.heesch_cuts.proofs.border.mark_beside.Goals as goal

pub loop-i-preserved : goal.loop-i-preserved
loop-i-preserved g c =
    let p = c.args.patch.now in
    let vars = p.universe.now.vars in
    let near = g.G.Grid.geometry.adjacent c.args.c in
    let e = c.mark_at.ensures in (
      e.chosen,
      (λ n t. e.grows n (c.loop-i.invariant.1 n t)),
      more_neighbours g.G.Grid.geometry g.met.G.Grid.laws c.args.c c.requires.cell c.ADJACENT-i-end.result (c.ADJACENT-i-end.ensures ∙ g.met.G.Grid.sizes.adjacent_is)
          (IsBordered p.shape.now vars p.level p.cells.now c.mark_at.new.marks) c.loop-i.i c.adjacent.result c.loop-i-test.true c.adjacent.ensures (bordered_grows vars p.model.now p.level p.shape.now p.cells.now c.loop-i.marks c.mark_at.new.marks e.grows (take c.loop-i.i near) c.loop-i.invariant.2) e.bordered,
    )

pub returns-clause-beside : goal.returns-clause-beside
returns-clause-beside g c =
    let p = c.args.patch.now in
    all_neighbours g.G.Grid.geometry g.met.G.Grid.laws c.args.c c.requires.cell c.ADJACENT-i-end.result (c.ADJACENT-i-end.ensures ∙ g.met.G.Grid.sizes.adjacent_is)
    (IsBordered p.shape.now p.universe.now.vars p.level p.cells.now c.loop-i.marks) c.loop-i.i c.loop-i-test.false c.loop-i.invariant.2
