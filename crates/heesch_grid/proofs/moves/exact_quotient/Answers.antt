use Rattle.std.proofs.Common.{◌≡◌, pos, to_z, of_z, w64, ap, ◌∙◌, arith}
use Rattle.std.specs.Int.{int_rem_euclid}
use Rattle.std.proofs.lemmas.Int.{ints, to_z-of_z}
use Rattle.heesch_grid.proofs.Quotients.{no_rest}
use Rattle.heesch_grid.proofs.moves.exact_quotient.Goals as goal

pub returns-then-rem_euclid-ne0-clause-none : goal.returns-then-rem_euclid-ne0-clause-none
returns-then-rem_euclid-ne0-clause-none c q e =
    let fits_z = to_z-of_z w64 c.args.z c.ranges.z in
    let fits_n = to_z-of_z w64 c.args.n c.ranges.n in
    let r : c.rem_euclid.result ≡ int_rem_euclid c.args.z c.args.n = c.rem_euclid.ensures.value ∙ ap (λ z. int_rem_euclid z (to_z w64 (of_z w64 c.args.n))) fits_z ∙ ap (int_rem_euclid c.args.z) fits_n in
    let low = c.rem_euclid.ensures.lower_bound in
    let high = c.rem_euclid.ensures.upper_bound in
    let none : c.rem_euclid.result ≡ pos 0 = no_rest c.args.n c.args.z q c.rem_euclid.result c.requires.positive r (omega (arith, ints, low)) (omega (arith, ints, high)) e in
    absurd (omega (arith, ints, none, c.if-rem_euclid-ne0.true))
