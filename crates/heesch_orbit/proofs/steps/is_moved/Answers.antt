use Rattle.std.proofs.Common.{◌≡◌, sym, ap, ◌∙◌, to_z, of_z, w32, ◌+ℤ◌, arith}
use Rattle.std.proofs.lemmas.Int.{ints}
use Rattle.heesch_grid.specs.declared.Cell.{Cell}
use Rattle.heesch_grid.specs.Cells.{cell, same_cell}
use Rattle.heesch_grid.specs.Pairs.{Cell-eta, same_cell-true, same_cell-is}
use Rattle.heesch_grid.specs.Vectors.{plus}
use Rattle.heesch_orbit.proofs.steps.is_moved.Goals as goal

pub returns : goal.returns
returns c =
    let v = c.args.v in
    let x = c.args.c in
    let d = c.args.d in
    let read : Cell = cell (to_z w32 (of_z w32 (to_z w32 (of_z w32 v.a) +ℤ to_z w32 (of_z w32 x.a)))) (to_z w32 (of_z w32 (to_z w32 (of_z w32 v.b) +ℤ to_z w32 (of_z w32 x.b)))) in
    let same : read ≡ plus v x = Cell-eta read (plus v x) (omega (arith, ints)) (omega (arith, ints)) in
    let is : c.eq.result ≡ same_cell d (plus v x) = c.eq.ensures ∙ ap (same_cell d) same in
    ((λ e. sym (same_cell-true d (plus v x) (sym is ∙ e))), (λ h. is ∙ same_cell-is d (plus v x) (sym h)))
