use Rattle.std.proofs.Common.{◌≡◌, ◌<◌, true, get_or, length, take, pos, ap, subst, arith}
use Rattle.heesch_grid.specs.declared.Cell.{Cell}
use Rattle.heesch_grid.specs.Cells.{cell, has}
use Rattle.heesch_grid.specs.Statements.{IsGrownFrom}
use Rattle.heesch_grow.specs.Adds.{Adds, IsChildAt, IsChildOfSome}
use Rattle.heesch_grow.proofs.Adding.{read_inside, all_none, all_more, all_end, has_take}
use Rattle.heesch_grow.proofs.growing.add_children.Goals as goal

abbrev zero_cell : Cell
zero_cell = cell (pos 0) (pos 0)

pub loop-at-init : goal.loop-at-init
loop-at-init g c =
    all_none g.G.Grid.geometry g.met.G.Grid.laws c.args.parent.now c.args.all.now.items

pub add_beside-requires-clause-inside : goal.add_beside-requires-clause-inside
add_beside-requires-clause-inside g c = read_inside c.args.parent.now c.cells-cells.result.now c.loop-at.at zero_cell c.cells-cells.ensures.cells c.loop-at-test.true

pub add_beside-requires-clause-near : goal.add_beside-requires-clause-near
add_beside-requires-clause-near g c = c.requires.near (get_or c.cells-cells.result.now c.loop-at.at zero_cell) (read_inside c.args.parent.now c.cells-cells.result.now c.loop-at.at zero_cell c.cells-cells.ensures.cells c.loop-at-test.true)

pub add_beside-requires-clause-before : goal.add_beside-requires-clause-before
add_beside-requires-clause-before g c =
    λ d h. has_take c.args.parent.now c.loop-at.at d (subst (λ zs. has (take c.loop-at.at zs) d ≡ true) c.cells-cells.ensures.cells h)

pub add_beside-requires-clause-done : goal.add_beside-requires-clause-done
add_beside-requires-clause-done g c =
    λ r h. c.loop-at.invariant.all r (subst (λ zs. IsChildOfSome g.G.Grid.geometry c.args.parent.now (take c.loop-at.at zs) r) c.cells-cells.ensures.cells h)

pub loop-at-preserved : goal.loop-at-preserved
loop-at-preserved g c =
    let geometry = g.G.Grid.geometry in
    let xs = c.args.parent.now in
    let e = c.cells-cells.ensures.cells in
    let less : c.loop-at.at < length xs = subst (λ zs. c.loop-at.at < length zs) e c.loop-at-test.true in
    let added = subst (λ zs. Adds (IsGrownFrom geometry xs) (IsChildAt geometry xs (get_or zs c.loop-at.at zero_cell)) c.loop-at.all.items c.add_beside.new.all.items) e c.in_ok-add_beside.ensures in
    all_more geometry g.met.G.Grid.laws xs c.loop-at.at zero_cell c.args.all.now.items c.loop-at.all.items c.add_beside.new.all.items less c.loop-at.invariant added

pub returns : goal.returns
returns g c =
    let long = ap length c.cells-cells.ensures.cells in
    all_end g.G.Grid.geometry g.met.G.Grid.laws c.args.parent.now c.loop-at.at c.args.all.now.items c.loop-at.all.items (omega (arith, c.loop-at-test.false, c.loop-at.auto.at-end, long)) c.loop-at.invariant
