use Rattle.std.proofs.Common.{◌≡◌, true, false, sym, ap, subst, ◌∙◌, pos, to_z, of_z, w32, w64, ◌-ℤ◌, ◌*ℤ◌, arith}
use Rattle.std.proofs.lemmas.Int.{ints}
use Rattle.heesch_grid.specs.Lattice.{Triple}
use Rattle.heesch_lattice.specs.Reduction.{lattice}
use Rattle.heesch_orbit.specs.Steps.{IsVector}
use Rattle.heesch_orbit.proofs.Quotients.{side_small, decided, undecided}
use Rattle.heesch_orbit.proofs.vectors.has_vector.Goals as goal

pub exact_quotient-requires-2-clause-positive : goal.exact_quotient-requires-2-clause-positive
exact_quotient-requires-2-clause-positive c =
    let some = c.triple.invariant.is_triple.p_positive in
    let small = side_small c.triple.inside.p c.triple.inside.q some c.triple.invariant.is_triple.q_positive c.triple.invariant.small in
    omega (arith, ints, some, small.0)

pub exact_quotient-requires-2-clause-small : goal.exact_quotient-requires-2-clause-small
exact_quotient-requires-2-clause-small c =
    let some = c.triple.invariant.is_triple.p_positive in
    let small = side_small c.triple.inside.p c.triple.inside.q some c.triple.invariant.is_triple.q_positive c.triple.invariant.small in
    omega (arith, ints, some, small.0)

pub returns-in_default : goal.returns-in_default
returns-in_default c =
    let p = c.triple.inside.p in
    let q = c.triple.inside.q in
    let s = c.triple.inside.s in
    let v = c.args.v in
    let small = side_small p q c.triple.invariant.is_triple.p_positive c.triple.invariant.is_triple.q_positive c.triple.invariant.small in
    let q_is : to_z w64 q ≡ pos q = omega (arith, ints, small.1) in
    let b_is : to_z w64 (of_z w64 (to_z w32 (of_z w32 v.b))) ≡ v.b = omega (arith, ints, c.requires.b_low, c.requires.b_high) in
    subst (λ (t : Triple). (false ≡ true → IsVector t v) × (IsVector t v → false ≡ true)) c.triple.view_is (undecided (lattice p q s) v (to_z w64 q) (to_z w64 (of_z w64 (to_z w32 (of_z w32 v.b)))) q_is b_is c.in_default.ensures.none)

pub returns : goal.returns
returns c =
    let p = c.triple.inside.p in
    let q = c.triple.inside.q in
    let s = c.triple.inside.s in
    let v = c.args.v in
    let j = c.in-Some.j in
    let small = side_small p q c.triple.invariant.is_triple.p_positive c.triple.invariant.is_triple.q_positive c.triple.invariant.small in
    let p_is : to_z w64 p ≡ pos p = omega (arith, ints, small.0) in
    let q_is : to_z w64 q ≡ pos q = omega (arith, ints, small.1) in
    let b_is : to_z w64 (of_z w64 (to_z w32 (of_z w32 v.b))) ≡ v.b = omega (arith, ints, c.requires.b_low, c.requires.b_high) in
    let at_b : pos q *ℤ j ≡ v.b = ap (λ k. k *ℤ j) (sym q_is) ∙ c.in-Some.ensures.some ∙ b_is in
    let a_is : to_z w64 (of_z w64 (to_z w32 (of_z w32 v.a))) ≡ v.a = omega (arith, ints, c.requires.a_low, c.requires.a_high) in
    let j_is : to_z w64 (of_z w64 j) ≡ j = omega (arith, ints, c.in-Some.ensures.size, b_is, c.requires.b_low, c.requires.b_high) in
    let read : to_z w64 (of_z w64 c.less-rest.result) ≡ c.less-rest.result = omega (arith, ints, c.less-rest.ensures.low, c.less-rest.ensures.high) in
    let rest : to_z w64 (of_z w64 c.less-rest.result) ≡ v.a -ℤ (j *ℤ pos s) = read ∙ c.less-rest.ensures.is ∙ (λ i. a_is i -ℤ (j_is i *ℤ pos s)) in
    subst (λ (t : Triple). (c.is_some.result ≡ true → IsVector t v) × (IsVector t v → c.is_some.result ≡ true)) c.triple.view_is (decided (lattice p q s) v j (to_z w64 p) (to_z w64 (of_z w64 c.less-rest.result)) c.exact_quotient-2.result c.is_some.result c.is_some.ensures p_is rest at_b c.triple.invariant.is_triple.q_positive c.exact_quotient-2.ensures.some c.exact_quotient-2.ensures.none)
