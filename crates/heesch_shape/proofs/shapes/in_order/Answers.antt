use Rattle.std.proofs.Common.{length, IsPermutation, IsSorted, sym, ap, ◌∙◌, subst}
use Rattle.heesch_grid.specs.Cells.{cell_cmp}
use Rattle.heesch_shape.specs.Walks.{IsShape}
use Rattle.heesch_shape.proofs.Loops.{refilled}
use Rattle.heesch_shape.proofs.shapes.in_order.Goals as goal

pub invariant_of-result : goal.invariant_of-result
invariant_of-result g c =
    let items = c.args.cells.items in
    let ys = c.sort_unstable.new.self in
    let p : IsPermutation items ys = subst (λ zs. IsPermutation zs ys) c.deref_mut.ensures.value c.sort_unstable.ensures.permutation in
    let same = refilled items ys (c.sort_unstable.ensures.len ∙ ap length c.deref_mut.ensures.value) in
    subst (IsShape g.G.Grid.geometry) (sym same) (c.requires ys p c.sort_unstable.ensures.sorted)

pub returns-clause-same : goal.returns-clause-same
returns-clause-same g c =
    let items = c.args.cells.items in
    let ys = c.sort_unstable.new.self in
    let p : IsPermutation items ys = subst (λ zs. IsPermutation zs ys) c.deref_mut.ensures.value c.sort_unstable.ensures.permutation in
    subst (IsPermutation items) (sym (refilled items ys (c.sort_unstable.ensures.len ∙ ap length c.deref_mut.ensures.value))) p

pub returns-clause-sorted : goal.returns-clause-sorted
returns-clause-sorted g c =
    subst (IsSorted cell_cmp) (sym (refilled c.args.cells.items c.sort_unstable.new.self (c.sort_unstable.ensures.len ∙ ap length c.deref_mut.ensures.value))) c.sort_unstable.ensures.sorted
