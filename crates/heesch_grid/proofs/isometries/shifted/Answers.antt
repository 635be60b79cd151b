use Rattle.std.proofs.Common.{◌≡◌, ◌*ℤ◌, ap, ◌∙◌, arith}
use Rattle.std.proofs.lemmas.Int.{ints}
use Rattle.heesch_grid.proofs.Images.{read}
use Rattle.heesch_grid.proofs.isometries.shifted.Goals as goal

pub returns : goal.returns
returns c =
    let unit_is : read c.args.unit ≡ c.args.unit = omega (arith, ints) in
    let n_is : read c.args.n ≡ c.args.n = omega (arith, ints) in
    let product : (read c.args.unit *ℤ read c.args.n) ≡ (c.args.unit *ℤ c.args.n) = ap (λ x. x *ℤ read c.args.n) unit_is ∙ ap (λ y. c.args.unit *ℤ y) n_is in
    omega (arith, ints, product)
