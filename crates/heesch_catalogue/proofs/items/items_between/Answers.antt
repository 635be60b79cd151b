use Rattle.std.proofs.Common.{◌+◌, [], slice_index_or, sym, ap, ◌∙◌, subst}
use Rattle.heesch_catalogue.proofs.EntryLists.{if_both}
use Rattle.heesch_catalogue.proofs.ItemTexts.{zip_between}
use Rattle.heesch_catalogue.proofs.items.items_between.Goals as goal

pub returns : goal.returns
returns g c =
    let is_of = g.R.ShapeText.is_of in
    let from = c.args.from in
    if_both c.run_span.result
    (λ items many answers.
    zip_between (is_of c.args.texts.now g.G.Grid.geometry) c.args.shapes.now items.items from c.args.until c.requires.span.1 (ap (λ n. from + n) (sym items.ok.0) ∙ many)
    (λ i e is. subst (λ w. is_of w.texts.now g.G.Grid.geometry (slice_index_or w.shapes.now (from + i) []) e) c.new-job.ensures.0 (answers i e is)))
    c.run_span.ensures.len c.run_span.ensures.answers
