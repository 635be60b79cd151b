use Rattle.std.proofs.Common.{ap, ◌∙◌}
use Rattle.heesch_grid.specs.Cells.{has}
use Rattle.heesch_cuts.proofs.Bordering.{patch_covered}
use Rattle.heesch_cuts.proofs.border.mark_at.Goals as goal

pub returns-then-not-has-clause-bordered : goal.returns-then-not-has-clause-bordered
returns-then-not-has-clause-bordered g c =
    let p = c.args.patch.now in
    let d = c.args.d in
    λ i o. c.mark_over.ensures.covered (patch_covered p.universe.now p.model.now p.level p.cells.now d c.requires.patch.cells_are i (ap (λ s. has s d) c.requires.patch.shape_is ∙ o))
