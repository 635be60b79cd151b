use Rattle.std.proofs.Common.{◌≡◌, ◌+◌, not, ◌&&◌, ◌||◌, pos, length, get_or, take, sym, ap, ◌∙◌, arith}
use Rattle.std.specs.List.{list_any}
use Rattle.std.proofs.Math.Seq.{take-length}
use Rattle.std.proofs.lemmas.List.Folds.{list_any_more}
use Rattle.heesch_grid.specs.declared.Cell.{Cell}
use Rattle.heesch_grid.specs.Cells.{cell, has}
use Rattle.heesch_grid.specs.Corona.{cells_of}
use Rattle.heesch_corona.proofs.Leasts.{least_same, cell_joins}
use Rattle.heesch_corona.proofs.Members.{item_within}
use Rattle.heesch_corona.proofs.gaps.least_around.Goals as goal

abbrev zero_cell : Cell
zero_cell = cell (pos 0) (pos 0)

pub least_beside-least-requires-clause-within : goal.least_beside-least-requires-clause-within
least_beside-least-requires-clause-within g c =
    item_within g.G.Grid.geometry c.args.index.now c.args.number c.loop-c.c-index zero_cell c.cells-c-items.result.now c.requires.shapes c.requires.low c.requires.high c.cells-c-items.ensures c.loop-c-test.true

pub loop-c-preserved : goal.loop-c-preserved
loop-c-preserved g c test start =
    let touching = g.G.Grid.geometry.touching in
    let xs = c.cells-c-items.result.now in
    let i = c.loop-c.c-index in
    let x = get_or xs i zero_cell in
    let covered = has (cells_of (take c.args.outer c.args.index.now)) in
    least_same (λ d. (test d || (list_any (λ e. has (touching e) d) (take i xs) && not (covered d))) || (has (touching x) d && not (covered d))) (λ d. test d || (list_any (λ e. has (touching e) d) (take (i + 1) xs) && not (covered d))) c.least_beside-least.result (λ d. cell_joins (test d) (list_any (λ e. has (touching e) d) (take i xs)) (has (touching x) d) (not (covered d)) ∙ ap (λ k. test d || (k && not (covered d))) (sym (list_any_more (λ e. has (touching e) d) xs i zero_cell c.loop-c-test.true))) (c.least_beside-least.ensures (λ d. test d || (list_any (λ e. has (touching e) d) (take i xs) && not (covered d))) (c.loop-c.invariant test start))

pub returns : goal.returns
returns g c test start =
    let touching = g.G.Grid.geometry.touching in
    let xs = c.cells-c-items.result.now in
    let end : c.loop-c.c-index ≡ length xs = omega (arith, c.loop-c-test.false, c.loop-c.auto.c-index-end) in
    let covered = has (cells_of (take c.args.outer c.args.index.now)) in
    let whole = ap (λ n. take n xs) end ∙ take-length xs ∙ c.cells-c-items.ensures in
    least_same (λ d. test d || (list_any (λ e. has (touching e) d) (take c.loop-c.c-index xs) && not (covered d))) _ c.loop-c.least (λ d. ap (λ ys. test d || (list_any (λ e. has (touching e) d) ys && not (covered d))) whole) (c.loop-c.invariant test start)
