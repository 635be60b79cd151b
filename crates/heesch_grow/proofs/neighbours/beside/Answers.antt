use Rattle.std.proofs.Common.{◌≡◌, ◌<◌, ◌≤◌, List, [], length, get_or, IsPermutation, pos, subst, sym, ap, ◌∙◌, arith}
use Rattle.heesch_grid.specs.declared.Cell.{Cell}
use Rattle.heesch_grid.specs.Cells.{cell, cell_before}
use Rattle.heesch_grid.specs.Geometry.{Adjacent}
use Rattle.heesch_grid.specs.Listing.{ListsExactly}
use Rattle.heesch_shape.specs.Reach.{IsNextTo}
use Rattle.heesch_shape.proofs.Loops.{refilled}
use Rattle.heesch_grow.specs.Collects.{Collects}
use Rattle.heesch_grow.specs.Generator.{IsBeside}
use Rattle.heesch_grow.proofs.Adding.{read_inside}
use Rattle.heesch_grow.proofs.Beside.{nothing_yet, one_more_cell, listed, some_listed}
use Rattle.heesch_grow.proofs.neighbours.beside.Goals as goal

abbrev zero_cell : Cell
zero_cell = cell (pos 0) (pos 0)

pub loop-c-init : goal.loop-c-init
loop-c-init g c =
    let geometry = g.G.Grid.geometry in
    let laws = g.met.G.Grid.laws in
    subst (λ (zs : List Cell). Collects geometry c.args.shape.now (IsNextTo geometry []) [] zs × (length zs ≤ 0)) (sym c.new-beside.ensures) (nothing_yet geometry laws c.args.shape.now, omega arith)

pub add_neighbours-requires-clause-inside : goal.add_neighbours-requires-clause-inside
add_neighbours-requires-clause-inside g c = read_inside c.args.shape.now c.cells-cells.result.now c.loop-c.c-index zero_cell c.cells-cells.ensures.cells c.loop-c-test.true

pub loop-c-preserved : goal.loop-c-preserved
loop-c-preserved g c =
    let geometry = g.G.Grid.geometry in
    let xs = c.args.shape.now in
    let n = c.loop-c.c-index in
    let e = c.cells-cells.ensures.cells in
    let less : n < length xs = subst (λ zs. n < length zs) e c.loop-c-test.true in
    let step = subst (λ zs. Collects geometry xs (Adjacent geometry (get_or zs n zero_cell)) c.loop-c.beside.items c.add_neighbours.new.beside.items) e c.add_neighbours.ensures.collects in
    let few = c.add_neighbours.ensures.few in
    let before = c.loop-c.invariant.1 in
    (one_more_cell geometry g.met.G.Grid.laws xs n zero_cell c.loop-c.beside.items c.add_neighbours.new.beside.items less c.loop-c.invariant.0 step, omega arith)

pub returns : goal.returns
returns g c =
    let geometry = g.G.Grid.geometry in
    let xs = c.args.shape.now in
    let items = c.loop-c.beside.items in
    let ys = c.sort_unstable.new.self in
    let whole : c.loop-c.c-index ≡ length xs = omega (arith, c.loop-c-test.false, c.loop-c.auto.c-index-end, ap length c.cells-cells.ensures.cells) in
    let p : IsPermutation items ys = subst (λ zs. IsPermutation zs ys) c.deref_mut.ensures.value c.sort_unstable.ensures.permutation in
    let same = refilled items ys (c.sort_unstable.ensures.len ∙ ap length c.deref_mut.ensures.value) in
    let list = listed geometry g.met.G.Grid.laws xs c.loop-c.c-index items ys whole c.loop-c.invariant.0 p c.sort_unstable.ensures.sorted in
    record {
      listed = subst (ListsExactly cell_before (IsBeside geometry xs)) (sym same) list;
      some = subst (λ (zs : List Cell). 0 < length zs) (sym same) (some_listed geometry g.met.G.Grid.laws xs ys c.cells-cells.ensures.shape.polyform list);
    }
