use Rattle.std.proofs.Common.{◌-◌, List, length, get_or, sym, ap, ◌∙◌, subst, arith}
use Rattle.heesch_grid.specs.declared.Cell.{Cell}
use Rattle.heesch_grid.specs.Cells.{cell_before}
use Rattle.heesch_grid.specs.Clauses.{formula_size}
use Rattle.heesch_grid.specs.Geometry.{IsAround}
use Rattle.heesch_grid.specs.Listing.{ListsExactly}
use Rattle.heesch_encode.proofs.Numbered.{no_entry}
use Rattle.heesch_encode.proofs.Pieces.{some_at}
use Rattle.heesch_numbers.proofs.Members.{no_support}
use Rattle.heesch_numbers.proofs.Sizes.{support_one, supporting_few}
use Rattle.heesch_numbers.proofs.room.support_size.Goals as goal

pub returns-then-of-lt2-clause-size : goal.returns-then-of-lt2-clause-size
returns-then-of-lt2-clause-size g c = λ x number.
    ap formula_size (no_support g.G.Grid.geometry c.args.plan.now.universe.now.vars c.args.var c.level_of-of.result x (c.level_of-of.ensures x number) c.if-of-lt2.true)

pub list_supporting-requires-clause-ring : goal.list_supporting-requires-clause-ring
list_supporting-requires-clause-ring g c =
    let geometry = g.G.Grid.geometry in
    let n = c.args.var in
    let x = get_or c.args.plan.now.universe.now.vars (n - 1) no_entry.1 in
    let number = some_at c.args.plan.now.universe.now.vars n c.requires.number.0 c.requires.number.1 in
    let tile = c.shape-tile.ensures ∙ c.placement_of.ensures.tile x number in
    subst (ListsExactly cell_before (IsAround geometry c.shape-tile.result.now)) (sym c.deref.ensures.value)
    (subst (λ (zs : List Cell). ListsExactly cell_before (IsAround geometry zs) c.write_moved.new.ring.items) (sym tile) (c.in_ok-write_moved.ensures.listed x number))

pub returns-clause-size : goal.returns-clause-size
returns-clause-size g c = λ x number.
    let size = support_one c.args.plan.now.universe.now.vars c.args.var x number g.G.Grid.geometry c.level_of-of.result c.shape-tile.result.now (c.level_of-of.ensures x number) c.if-of-lt2.false (c.shape-tile.ensures ∙ c.placement_of.ensures.tile x number) in
    let listed = ap length c.in_ok-list_supporting.ensures.listed in
    omega (arith, size, listed, c.len.ensures)

pub returns-clause-small : goal.returns-clause-small
returns-clause-small g c =
    let listed = ap length c.in_ok-list_supporting.ensures.listed in
    let few = supporting_few g.G.Grid.geometry c.args.plan.now.universe.now.vars (c.level_of-of.result - 1) c.shape-tile.result.now in
    let all = c.requires.plan.few in
    omega (arith, listed, few, all, c.len.ensures)
