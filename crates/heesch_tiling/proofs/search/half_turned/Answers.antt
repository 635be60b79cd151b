use Rattle.std.proofs.Common.{◌≡◌, ◌∙◌, to_z, of_z, w32, arith}
use Rattle.std.proofs.lemmas.Int.{ints}
use Rattle.heesch_tiling.proofs.search.half_turned.Goals as goal

pub returns-clause-is : goal.returns-clause-is
returns-clause-is g c =
    let met = g.met.G.Grid in
    let a : to_z w32 (of_z w32 c.args.v.a) ≡ c.args.v.a = omega (arith, ints, c.requires.a_low, c.requires.a_high) in
    let b : to_z w32 (of_z w32 c.args.v.b) ≡ c.args.v.b = omega (arith, ints, c.requires.b_low, c.requires.b_high) in
    λ i. record { turn = (c.HALF_TURN.ensures ∙ met.sizes.half_turn_is) i; da = a i; db = b i }
