use Rattle.std.proofs.Common.{◌≡◌, ◌<◌, length, get_or, pos, sym, subst, ap, ◌∙◌, arith, true≢false}
use Rattle.std.proofs.lemmas.Bool.{not-false, not-true}
use Rattle.heesch_grid.specs.Cells.{cell, same_cell}
use Rattle.heesch_grid.specs.Pairs.{same_cell-true, same_cell-is}
use Rattle.heesch_grid.specs.Vectors.{plus}
use Rattle.heesch_grid.proofs.Images.{wider}
use Rattle.heesch_shape.proofs.Loops.{has_at}
use Rattle.heesch_place.proofs.Moves.{moved_more, plus_once, get_or_map}
use Rattle.heesch_place.proofs.turned.is_moved.Goals as goal

pub difference-requires-clause-to : goal.difference-requires-clause-to
difference-requires-clause-to c =
    let to = c.args.to.now in
    let i = c.loop-i.i in
    let zero = cell (pos 0) (pos 0) in
    wider 1000000 2000000 (get_or to i zero) (omega arith) (c.requires.to (get_or to i zero) (has_at to i zero (subst (λ n. i < n) c.if-from-to.false c.loop-i-test.true)))

-- where the second list is the first moved, each of its cells lies the step away
pub returns-then-ne-clause-no : goal.returns-then-ne-clause-no
returns-then-ne-clause-no c _ moved =
    let from = c.args.from.now in
    let i = c.loop-i.i in
    let zero = cell (pos 0) (pos 0) in
    let there = ap (λ zs. get_or zs i zero) moved ∙ get_or_map (plus c.args.step) from i zero zero c.loop-i-test.true in
    let step = plus_once c.difference.result c.args.step (get_or from i zero) (c.difference.ensures.is ∙ there) in
    true≢false (sym (same_cell-is c.difference.result c.args.step step) ∙ not-true (same_cell c.difference.result c.args.step) (sym c.ne.ensures ∙ c.if-ne.true))

pub loop-i-preserved : goal.loop-i-preserved
loop-i-preserved c =
    let from = c.args.from.now in
    let to = c.args.to.now in
    let i = c.loop-i.i in
    let zero = cell (pos 0) (pos 0) in
    let less : i < length to = subst (λ n. i < n) c.if-from-to.false c.loop-i-test.true in
    let step : c.difference.result ≡ c.args.step = same_cell-true c.difference.result c.args.step (not-false (same_cell c.difference.result c.args.step) (sym c.ne.ensures ∙ c.if-ne.false)) in
    let same : get_or to i zero ≡ plus c.args.step (get_or from i zero) = sym c.difference.ensures.is ∙ ap (λ s. plus s (get_or from i zero)) step in
    moved_more (plus c.args.step) from to i zero zero c.loop-i-test.true less same c.loop-i.invariant
