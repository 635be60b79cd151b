use Rattle.std.proofs.Common.{◌≡◌, [], length, get_or, slice_range, sym, ap, ◌∙◌, arith}
use Rattle.heesch_io.specs.Pieces.{start_at}
use Rattle.heesch_io.proofs.Pieces.{pieces-at, length-pieces}
use Rattle.heesch_index.proofs.sets.CellSets.set.Goals as goal

pub bounds-start-requires-clause-index : goal.bounds-start-requires-clause-index
bounds-start-requires-clause-index c = let count = length-pieces c.self.inside.cells.items 0 c.self.inside.ends.items in let view = ap length c.self.view_is in let ends = ap length c.deref.ensures.value in omega arith

pub returns : goal.returns
returns c =
    let t = c.self.inside in
    let b = c.bounds-start.result in
    let ends = c.deref.ensures.value in
    let start : b.0 ≡ start_at 0 t.ends.items c.args.index = c.bounds-start.ensures.start ∙ ap (λ es. start_at 0 es c.args.index) ends in
    let end : b.1 ≡ get_or t.ends.items c.args.index 0 = c.bounds-start.ensures.end ∙ ap (λ es. get_or es c.args.index 0) ends in
    let count = length-pieces t.cells.items 0 t.ends.items in
    let view = ap length c.self.view_is in
    ap (λ ls. slice_range ls b.0 b.1) c.deref-2.ensures.value
    ∙ ap (λ i. slice_range t.cells.items i b.1) start
    ∙ ap (slice_range t.cells.items (start_at 0 t.ends.items c.args.index)) end
    ∙ sym (pieces-at t.cells.items 0 t.ends.items c.args.index (omega arith))
    ∙ ap (λ cs. get_or cs c.args.index []) c.self.view_is
