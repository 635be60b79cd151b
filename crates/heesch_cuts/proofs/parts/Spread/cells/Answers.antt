use Rattle.std.proofs.Common.{◌<◌, ◌++◌, ◌∷◌, [], cond, length, get_or, pos, refl, sym, ap, ◌∙◌, arith}
use Rattle.std.proofs.lemmas.List.{get_or_default}
use Rattle.heesch_grid.specs.Cells.{cell}
use Rattle.heesch_cuts.specs.Marks.{is_marked}
use Rattle.heesch_cuts.proofs.Spreading.{marked_more, marked_end, read_mark}
use Rattle.heesch_cuts.proofs.parts.Spread.cells.Goals as goal

pub loop-i-preserved : goal.loop-i-preserved
loop-i-preserved c =
    let hole = c.args.hole.now in
    let reached = c.args.self.now.reached.items in
    let i = c.loop-i.i in
    let d = get_or hole i (cell (pos 0) (pos 0)) in
    let less : i < length hole = c.loop-i-test.true in
    let mark = read_mark reached i c.index.result.now c.index.result.now (omega (arith, less, c.requires, c.args.self.now.reached.ok)) c.index.ensures refl in
    c.in_ok-push_reached.ensures ∙ ap (λ b. c.loop-i.part ++ cond b (d ∷ []) []) (sym mark) ∙ ap (λ xs. xs ++ cond (is_marked reached i) (d ∷ []) []) c.loop-i.invariant
    ∙ sym (marked_more reached hole i d less (get_or_default hole i d (cell (pos 0) (pos 0)) less))

pub returns : goal.returns
returns c = c.loop-i.invariant ∙ marked_end c.args.self.now.reached.items c.args.hole.now c.loop-i.i c.loop-i-test.false
