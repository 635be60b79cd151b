use Rattle.std.proofs.Common.{◌||◌, pos, get_or, ap, sym, ◌∙◌}
use Rattle.heesch_grid.specs.declared.Cell.{Cell}
use Rattle.heesch_grid.specs.Cells.{cell, same_cell}
use Rattle.heesch_region.proofs.Places.{inner-true, inside-is}
use Rattle.heesch_region.proofs.Boxes.{has_at, has_more}
use Rattle.heesch_region.proofs.window.Window.mark_all.Goals as goal

abbrev zero_cell : Cell
zero_cell = cell (pos 0) (pos 0)

pub mark-requires-clause-inside : goal.mark-requires-clause-inside
mark-requires-clause-inside c =
    inside-is c.args.self _ (inner-true c.args.self _ (c.requires.inner _ (has_at c.args.cells.now c.loop-c.c-index zero_cell c.loop-c-test.true))).inside

pub loop-c-preserved : goal.loop-c-preserved
loop-c-preserved c d =
    c.mark.ensures d ∙ ap (λ b. b || same_cell d (get_or c.args.cells.now c.loop-c.c-index zero_cell)) (c.loop-c.invariant d) ∙ sym (has_more c.args.cells.now c.loop-c.c-index zero_cell d c.loop-c-test.true)
