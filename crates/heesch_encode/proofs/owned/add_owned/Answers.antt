use Rattle.std.proofs.Common.{◌≡◌, ◌++◌, filter, get_or, take, sym, ap, ◌∙◌, arith}
use Rattle.std.proofs.lemmas.List.{take_all, get_or_default}
use Rattle.heesch_grid.specs.declared.Cell.{Cell}
use Rattle.heesch_encode.specs.Owners.{is_first_of_some, is_first_holder}
use Rattle.heesch_grid.specs.Cells.{origin}
use Rattle.heesch_encode.proofs.Rising.{filter_keeps, filter_skips}
use Rattle.heesch_encode.proofs.owned.add_owned.Goals as goal
use Rattle.heesch_encode.proofs.owned.add_owned.Goals.{then-is_first+in_ok-add, else-is_first}

pub loop-c-preserved : goal.loop-c-preserved
loop-c-preserved g c =
    let vars = c.args.universe.now.vars in
    let n = c.args.var in
    let items = c.cells-c-items.result.now in
    let i = c.loop-c.c-index in
    let at : Cell = get_or items i origin in
    let read : get_or items i at ≡ at = get_or_default items i at origin c.loop-c-test.true in
    let tested : c.is_first.result ≡ is_first_holder vars n at = c.is_first.ensures ∙ ap (is_first_of_some n) c.holders_of.ensures in
    elim c.if-is_first.branch [
      | then-is_first+in_ok-add w ↦
          ap (λ (v : _). v.items) w.cells-is ∙ w.in_ok-add.ensures
          ∙ filter_keeps (is_first_holder vars n) c.args.cells.now.items c.loop-c.cells.items items i at c.loop-c-test.true read (sym tested ∙ w.if-is_first.true) c.loop-c.invariant
      | else-is_first w ↦
          ap (λ (v : _). v.items) w.cells-is
          ∙ filter_skips (is_first_holder vars n) c.args.cells.now.items c.loop-c.cells.items items i at c.loop-c-test.true read (sym tested ∙ w.if-is_first.false) c.loop-c.invariant
    ]

pub returns : goal.returns
returns g c =
    let vars = c.args.universe.now.vars in
    let n = c.args.var in
    let items = c.cells-c-items.result.now in
    let i = c.loop-c.c-index in
    let whole : take i items ≡ items = take_all i items (omega (arith, c.loop-c-test.false)) in
    λ x number.
    let tile = c.cells-c-items.ensures.cells ∙ c.shape.ensures ∙ c.placement_of.ensures.tile x number in
    c.loop-c.invariant ∙ ap (λ zs. c.args.cells.now.items ++ filter (is_first_holder vars n) zs) (whole ∙ tile)
