use Rattle.std.proofs.Common.{◌+◌, slice_index_or, sym, ap, ◌∙◌, subst, zero-add}
use Rattle.heesch_grid.specs.Tiling.{IsPlain}
use Rattle.heesch_tiling.specs.PlainAnswer.{answered}
use Rattle.heesch_catalogue.proofs.EntryLists.{if_both}
use Rattle.heesch_app.proofs.PlainAnswers.{plain_each}
use Rattle.heesch_app.proofs.tilings.tilings_of.Goals as goal

pub returns : goal.returns
returns g c =
    let geometry = g.G.Grid.geometry in
    let shapes = c.args.shapes.now in
    let same = ap (λ w. w.shapes.now) c.new-job.ensures.0 in
    if_both c.run_all.result
    (λ tilings many answers.
    plain_each geometry shapes tilings.items (sym tilings.ok.0 ∙ many ∙ c.new-job.ensures.1 ∙ c.in-Ok.ensures.1)
    (λ i x e d.
    subst (λ n. IsPlain geometry (slice_index_or shapes n d) (answered x)) (zero-add i)
    (subst (λ ss. IsPlain geometry (slice_index_or ss (0 + i) d) (answered x)) same (answers i x e d))))
    c.run_all.ensures.len c.run_all.ensures.answers
