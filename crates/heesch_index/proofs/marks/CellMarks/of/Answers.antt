use Rattle.std.proofs.Common.{◌||◌, get_or, sym, ap, subst, ◌∙◌}
use Rattle.std.proofs.lemmas.List.Folds.{list_any_at}
use Rattle.heesch_grid.specs.Cells.{origin, same_cell}
use Rattle.heesch_grid.specs.Pairs.{same_cell-refl}
use Rattle.heesch_index.specs.Marking.{IsBetween}
use Rattle.heesch_index.proofs.EntryFacts.{has_more}
use Rattle.heesch_index.proofs.marks.CellMarks.of.Goals as goal

pub add-requires : goal.add-requires
add-requires c =
    let x = get_or c.args.cells.now c.loop-cell.cell-index origin in
    let here = list_any_at (same_cell x) c.args.cells.now c.loop-cell.cell-index origin c.loop-cell-test.true (same_cell-refl x) in
    subst (λ low. IsBetween low c.loop-cell.marks.high x) (sym (c.loop-cell.invariant.0 ∙ c.in_ok-marks.ensures.low))
    (subst (λ high. IsBetween c.around-corners.result.low high x) (sym (c.loop-cell.invariant.1 ∙ c.in_ok-marks.ensures.high)) (c.around-corners.ensures x here))

pub loop-cell-preserved : goal.loop-cell-preserved
loop-cell-preserved c =
    let cells = c.args.cells.now in
    let i = c.loop-cell.cell-index in (
      c.add.ensures.low ∙ c.loop-cell.invariant.0,
      c.add.ensures.high ∙ c.loop-cell.invariant.1,
      λ d. c.add.ensures.cells d ∙ ap (λ b. b || same_cell (get_or cells i origin) d) (c.loop-cell.invariant.2 d) ∙ sym (has_more cells i origin d c.loop-cell-test.true),
    )
