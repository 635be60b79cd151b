use Rattle.std.proofs.Common.{◌+◌, ◌*◌, ◌/◌, ◌%◌, ◌≤◌, pos, ◌+ℤ◌, sym, ◌∙◌, subst, arith}
use Rattle.std.proofs.lemmas.Int.{ints}
use Rattle.heesch_grid.specs.Cells.{cell}
use Rattle.heesch_grid.specs.Vectors.{IsWithin}
use Rattle.heesch_grid.specs.Pairs.{Cell-eta}
use Rattle.heesch_region.proofs.Boxes.{first_is, first_near}
use Rattle.heesch_region.proofs.window.Window.first.Goals as goal

pub returns-clause-is : goal.returns-clause-is
returns-clause-is c =
    let w = c.args.self in
    let n = c.args.strip in
    let near = first_near w n c.requires.from c.requires.to in
    let few : w.unit ≤ 6 = w.few in
    let low_a = w.low_a in
    let low_b = w.low_b in
    let a_low = near.a_low in
    let a_high = near.a_high in
    let b_low = near.b_low in
    let b_high = near.b_high in
    Cell-eta _ (cell (w.low.a +ℤ pos (64 * w.unit + n % w.unit)) (w.low.b +ℤ pos (n / w.unit))) (omega (arith, ints, a_low, a_high, few, low_a)) (omega (arith, ints, b_low, b_high, low_b)) ∙ sym (first_is w n)

pub returns-clause-near : goal.returns-clause-near
returns-clause-near c =
    let w = c.args.self in
    let n = c.args.strip in
    subst (IsWithin 1000000) (sym (first_is w n) ∙ sym (returns-clause-is c)) (first_near w n c.requires.from c.requires.to)
