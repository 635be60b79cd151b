use Rattle.std.proofs.Common.{get_or, pos, sym, ◌∙◌}
use Rattle.std.proofs.lemmas.Bool.{true≢false}
use Rattle.heesch_grid.specs.declared.Cell.{Cell}
use Rattle.heesch_grid.specs.Cells.{cell}
use Rattle.heesch_shape.proofs.Loops.{has_at}
use Rattle.heesch_shape.proofs.Reached.{none_more}
use Rattle.heesch_grid.proofs.GridFacts.{adjacent_exact}
use Rattle.heesch_shape.proofs.reach.is_next_to.Goals as goal

abbrev zero_cell : Cell
zero_cell = cell (pos 0) (pos 0)

pub returns-then-are_adjacent-clause-yes : goal.returns-then-are_adjacent-clause-yes
returns-then-are_adjacent-clause-yes g c =
    let xs = c.args.inside.now in
    let x = get_or xs c.loop-c.c-index zero_cell in
    let x_in = has_at xs c.loop-c.c-index zero_cell c.loop-c-test.true in
    λ _. record { from = x; is_in = x_in; adjacent = (adjacent_exact g.G.Grid.geometry g.met.G.Grid.laws x c.args.d (c.requires.cells x x_in)).0 (sym c.are_adjacent.ensures ∙ c.if-are_adjacent.true) }

pub loop-c-preserved : goal.loop-c-preserved
loop-c-preserved g c =
    let xs = c.args.inside.now in
    let x = get_or xs c.loop-c.c-index zero_cell in
    let x_in = has_at xs c.loop-c.c-index zero_cell c.loop-c-test.true in
    none_more g.G.Grid.geometry xs c.loop-c.c-index zero_cell c.args.d c.loop-c-test.true c.loop-c.invariant (λ a. true≢false (sym ((adjacent_exact g.G.Grid.geometry g.met.G.Grid.laws x c.args.d (c.requires.cells x x_in)).1 a) ∙ sym c.are_adjacent.ensures ∙ c.if-are_adjacent.false))

pub are_adjacent-requires-clause-cell : goal.are_adjacent-requires-clause-cell
are_adjacent-requires-clause-cell g c =
    c.requires.cells (get_or c.args.inside.now c.loop-c.c-index zero_cell) (has_at c.args.inside.now c.loop-c.c-index zero_cell c.loop-c-test.true)

pub are_adjacent-requires-clause-within : goal.are_adjacent-requires-clause-within
are_adjacent-requires-clause-within g c =
    c.requires.within (get_or c.args.inside.now c.loop-c.c-index zero_cell) (has_at c.args.inside.now c.loop-c.c-index zero_cell c.loop-c-test.true)
