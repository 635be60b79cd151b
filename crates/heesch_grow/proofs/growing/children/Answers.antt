use Rattle.std.proofs.Common.{[], sym, ◌∙◌, subst, arith}
use Rattle.std.specs.Cmp.Lexicographic.{slice_cmp}
use Rattle.std.specs.Ordering.{eq_by_cmp}
use Rattle.std.proofs.lemmas.List.Filters.{dedup_is}
use Rattle.heesch_grid.specs.Cells.{cell_cmp}
use Rattle.heesch_grid.specs.Statements.{IsGrownFrom}
use Rattle.heesch_grow.specs.Adds.{Adds, IsGrownFromSome}
use Rattle.heesch_grow.proofs.Gathered.{any_default, every_none, every_more, every_end, listed}
use Rattle.heesch_grow.proofs.Small.{small_at, near_cell}
use Rattle.heesch_grow.proofs.growing.children.Goals as goal

pub loop-parent-init : goal.loop-parent-init
loop-parent-init g c =
    let geometry = g.G.Grid.geometry in
    let parents = c.args.parents.now in
    subst (Adds (IsGrownFromSome geometry parents) (IsGrownFromSome geometry []) []) (sym c.new-all.ensures.items) (every_none geometry parents)

pub loop-parent-preserved : goal.loop-parent-preserved
loop-parent-preserved g c =
    let parents = c.args.parents.now in
    every_more g.G.Grid.geometry parents c.loop-parent.parent-index [] c.loop-parent.all.items c.add_children.new.all.items c.loop-parent-test.true c.loop-parent.invariant
    (subst (λ z. Adds (IsGrownFrom g.G.Grid.geometry z) (IsGrownFrom g.G.Grid.geometry z) c.loop-parent.all.items c.add_children.new.all.items) (c.parent-item.is ∙ any_default parents c.loop-parent.parent-index c.parent-item.result [] c.loop-parent-test.true) c.in_ok-add_children.ensures)

pub returns : goal.returns
returns g c =
    let geometry = g.G.Grid.geometry in
    let parents = c.args.parents.now in
    let made = every_end geometry parents c.loop-parent.parent-index c.loop-parent.all.items (omega (arith, c.loop-parent-test.false, c.loop-parent.auto.parent-index-end)) c.loop-parent.invariant in
    listed (IsGrownFromSome geometry parents) c.loop-parent.all.items c.sort_unstable.new.self.items c.dedup.new.self.items made c.sort_unstable.ensures.permutation c.sort_unstable.ensures.sorted (dedup_is (eq_by_cmp (slice_cmp cell_cmp)) c.sort_unstable.new.self.items c.dedup.new.self.items c.dedup.ensures.filtered)

pub add_children-requires-clause-few : goal.add_children-requires-clause-few
add_children-requires-clause-few g c =
    (small_at g.G.Grid.geometry c.args.parents.now c.loop-parent.parent-index c.parent-item.result c.parent-item.result c.requires c.loop-parent-test.true c.parent-item.is).few

pub add_children-requires-clause-near : goal.add_children-requires-clause-near
add_children-requires-clause-near g c =
    near_cell c.parent-item.result (small_at g.G.Grid.geometry c.args.parents.now c.loop-parent.parent-index c.parent-item.result c.parent-item.result c.requires c.loop-parent-test.true c.parent-item.is)
