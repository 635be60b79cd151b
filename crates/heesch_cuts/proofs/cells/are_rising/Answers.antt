use Rattle.std.proofs.Common.{◌≡◌, ◌-◌, true, sym, ◌∙◌, get_or, pos, true≢false, refl, arith}
use Rattle.std.proofs.lemmas.List.Sorted.{all_adjacent_more}
use Rattle.heesch_grid.specs.declared.Cell.{Cell}
use Rattle.heesch_grid.specs.Cells.{cell, cell_before}
use Rattle.heesch_grid.proofs.SortFacts.{before-transitive}
use Rattle.heesch_cuts.proofs.Rising.{rising_from_steps, not_rising, no_step, one_step, step_read}
use Rattle.heesch_cuts.proofs.cells.are_rising.Goals as goal

abbrev zero_cell : Cell
zero_cell = cell (pos 0) (pos 0)

pub returns-then-is_ge : goal.returns-then-is_ge
returns-then-is_ge c =
    let xs = c.args.cells.now in
    let i = c.loop-i.i in
    ((λ f. absurd (true≢false (sym f))), λ r. absurd (not_rising cell_before xs i zero_cell c.loop-i.auto.i c.loop-i-test.true (no_step (get_or xs (i - 1) zero_cell) (get_or xs i zero_cell) c.cmp.result c.cmp.ensures (sym c.is_ge.ensures ∙ c.if-is_ge.true)) r))

pub loop-i-preserved : goal.loop-i-preserved
loop-i-preserved c =
    let xs = c.args.cells.now in
    let i = c.loop-i.i in
    let step = one_step (get_or xs (i - 1) zero_cell) (get_or xs i zero_cell) c.cmp.result c.cmp.ensures (sym c.is_ge.ensures ∙ c.if-is_ge.false) in
    all_adjacent_more xs (λ x y. cell_before x y ≡ true) i c.loop-i.auto.i c.loop-i.invariant (step_read cell_before xs i zero_cell c.loop-i.auto.i c.loop-i-test.true step)

pub returns : goal.returns
returns c =
    let xs = c.args.cells.now in
    ((λ t. rising_from_steps cell_before before-transitive xs (λ k d l. c.loop-i.invariant k d (omega arith))), λ r. refl)
