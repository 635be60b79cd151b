use Rattle.std.proofs.Common.{◌≡◌, ◌-◌, suc, sym, ◌∙◌, arith}
use Rattle.std.specs.Int.Count.{count_leading_zeros}
use Rattle.std.proofs.lemmas.Nat.{leading_top}
use Rattle.heesch_grid.proofs.OwnedCells.{digits_are}
use Rattle.heesch_encode.proofs.owned.digits_of_ranks.Goals as goal

pub returns-clause-digits : goal.returns-clause-digits
returns-clause-digits c =
    let most = c.args.number - 1 in
    let some = c.requires in
    let range = c.ranges.number in
    let top = leading_top 64 most (omega arith) (omega arith) in
    let e : 64 - count_leading_zeros 64 most ≡ suc top.0 = let s = top.1 in omega arith in
    e ∙ sym (digits_are most top.0 top.2 top.3)
