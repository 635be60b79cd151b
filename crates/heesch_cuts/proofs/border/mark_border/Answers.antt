use Rattle.std.proofs.Common.{take, pos, sym, All}
use Rattle.std.proofs.lemmas.List.{take_all}
use Rattle.std.proofs.lemmas.List.Elements.{All-more, All-same, All-weaker}
use Rattle.heesch_grid.specs.Cells.{cell}
use Rattle.heesch_cuts.specs.Patches.{IsBordered}
use Rattle.heesch_cuts.proofs.Bordering.{bordered_grows}
use Rattle.heesch_cuts.proofs.border.mark_border.Goals as goal

pub loop-c-preserved : goal.loop-c-preserved
loop-c-preserved g c =
    let near = g.G.Grid.geometry.adjacent in
    let p = c.args.patch.now in
    let bordered = IsBordered p.shape.now p.universe.now.vars p.level p.cells.now in
    let e = c.mark_beside.ensures in (
      e.chosen,
      All-more (λ z. All (bordered c.mark_beside.new.marks) (near z)) c.args.hole.now c.loop-c.c-index (cell (pos 0) (pos 0)) c.loop-c-test.true
          (All-weaker (λ z. All (bordered c.loop-c.marks) (near z)) (λ z. All (bordered c.mark_beside.new.marks) (near z)) (λ z. bordered_grows p.universe.now.vars p.model.now p.level p.shape.now p.cells.now c.loop-c.marks c.mark_beside.new.marks e.grows (near z)) (take c.loop-c.c-index c.args.hole.now) c.loop-c.invariant.1)
          e.beside,
    )

pub returns-clause-beside : goal.returns-clause-beside
returns-clause-beside g c =
    let p = c.args.patch.now in
    let hole = c.args.hole.now in
    All-same (λ z. All (IsBordered p.shape.now p.universe.now.vars p.level p.cells.now c.loop-c.marks) (g.G.Grid.geometry.adjacent z)) hole (take c.loop-c.c-index hole) (sym (take_all c.loop-c.c-index hole c.loop-c-test.false)) c.loop-c.invariant.1
