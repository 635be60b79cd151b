use Rattle.std.proofs.Common.{◌≡◌, inl, inr, [], true, Contains, get_or, sym, subst, ap, ◌∙◌, arith}
use Rattle.std.proofs.lemmas.Result.{IfOk-weaker}
use Rattle.heesch_grid.specs.declared.Cell.{Cell}
use Rattle.heesch_grid.specs.Cells.{cell_before, has, origin}
use Rattle.heesch_grid.specs.Geometry.{Touching}
use Rattle.heesch_grid.specs.Listing.{ListsExactly}
use Rattle.heesch_grid.specs.Pairs.{has-true}
use Rattle.heesch_grid.proofs.CellFacts.{has-is}
use Rattle.heesch_grid.proofs.ListFacts.{no_member}
use Rattle.heesch_index.specs.Marking.{is_marked}
use Rattle.heesch_shape.proofs.Loops.{has_at}
use Rattle.heesch_shape.proofs.Touches.{shape_cells}
use Rattle.heesch_place.specs.Found.{Adds, FromOne}
use Rattle.heesch_place.proofs.Gathering.{from_none, from_more, from_all, relisted}
use Rattle.heesch_place.proofs.around.cells_touching.Goals as goal

pub add_touching-requires-clause-cell : goal.add_touching-requires-clause-cell
add_touching-requires-clause-cell g c =
    let xs = c.cells-c-items.result.now in
    let x = get_or xs c.loop-c.c-index origin in
    shape_cells g.G.Grid.geometry c.args.tile.now c.cells-c-items.ensures.shape x (ap (λ zs. has zs x) (sym c.cells-c-items.ensures.cells) ∙ has_at xs c.loop-c.c-index origin c.loop-c-test.true)

pub add_touching-requires-clause-within : goal.add_touching-requires-clause-within
add_touching-requires-clause-within g c =
    let xs = c.cells-c-items.result.now in
    let x = get_or xs c.loop-c.c-index origin in
    c.cells-c-items.ensures.shape.within x (ap (λ zs. has zs x) (sym c.cells-c-items.ensures.cells) ∙ has_at xs c.loop-c.c-index origin c.loop-c-test.true)

pub loop-c-init : goal.loop-c-init
loop-c-init g c =
    let R = Touching g.G.Grid.geometry in
    subst (Adds (FromOne R []) []) (sym c.new-all.ensures.items) (from_none R c.cells-c-items.result.now (Contains []))

pub loop-c-preserved : goal.loop-c-preserved
loop-c-preserved g c =
    from_more (Touching g.G.Grid.geometry) c.cells-c-items.result.now c.loop-c.c-index origin (Contains []) (Contains c.loop-c.all.items) (Contains c.add_touching.new.all.items) c.loop-c-test.true c.loop-c.invariant c.in_ok-add_touching.ensures

pub returns : goal.returns
returns g c =
    let geometry = g.G.Grid.geometry in
    let all = c.loop-c.all.items in
    let marks = c.in_ok-of.field-0 in
    let made = from_all (Touching geometry) c.cells-c-items.result.now c.loop-c.c-index (Contains []) (Contains all) (omega (arith, c.loop-c-test.false, c.loop-c.auto.c-index-end)) c.loop-c.invariant in
    let marked : (d : Cell) → is_marked marks d ≡ has all d = λ d. c.in_ok-of.ensures d ∙ ap (λ zs. has zs d) c.as_slice.ensures.value in
    let around : Adds (FromOne (Touching geometry) c.args.tile.now) [] all = subst (λ zs. Adds (FromOne (Touching geometry) zs) [] all) c.cells-c-items.ensures.cells made in
    IfOk-weaker c.cells-2.result (λ cells. ListsExactly cell_before (λ d. is_marked marks d ≡ true) cells.items) (λ cells. ListsExactly cell_before (FromOne (Touching geometry) c.args.tile.now) cells.items)
    (λ cells l. relisted cell_before (λ d. is_marked marks d ≡ true) (FromOne (Touching geometry) c.args.tile.now) cells.items l
    (λ d h. elim (around.only d (has-true all d (sym (marked d) ∙ h))) [ inl none ↦ absurd (no_member d none) | inr r ↦ r ])
    (λ d r. marked d ∙ has-is all d (around.all d r))) c.cells-2.ensures
