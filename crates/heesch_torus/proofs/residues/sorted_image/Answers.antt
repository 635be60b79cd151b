use Rattle.std.proofs.Common.{List, length, IsPermutation, IsSorted, sym, ap, ◌∙◌, subst}
use Rattle.heesch_grid.specs.declared.Cell.{Cell}
use Rattle.heesch_grid.specs.Cells.{cell_cmp}
use Rattle.heesch_shape.proofs.Loops.{refilled}
use Rattle.heesch_tiling.specs.Counting.{tile_residues}
use Rattle.heesch_torus.proofs.residues.sorted_image.Goals as goal

pub returns-clause-permutation : goal.returns-clause-permutation
returns-clause-permutation g c =
    let same = refilled c.reduced_image-residues.result.items c.sort_unstable.new.self (c.sort_unstable.ensures.len ∙ ap length c.deref_mut.ensures.value) in
    subst (IsPermutation (tile_residues g.G.Grid.geometry c.args.tiles.now.cells.now c.args.tiles.now.triple c.args.by.now.iso)) (sym same)
    (subst (λ (xs : List Cell). IsPermutation xs c.sort_unstable.new.self) (c.deref_mut.ensures.value ∙ c.reduced_image-residues.ensures) c.sort_unstable.ensures.permutation)

pub returns-clause-sorted : goal.returns-clause-sorted
returns-clause-sorted g c =
    subst (IsSorted cell_cmp) (sym (refilled c.reduced_image-residues.result.items c.sort_unstable.new.self (c.sort_unstable.ensures.len ∙ ap length c.deref_mut.ensures.value))) c.sort_unstable.ensures.sorted
