use Rattle.std.proofs.Common.{ℕ, subst, sym, ◌∙◌, true≢false}
use Rattle.heesch_lattice.specs.Turned.{CarriesVectors}
use Rattle.heesch_lattice.proofs.Vectors.{by_vectors, vectors_by}
use Rattle.heesch_lattice.proofs.turned.is_turned.Goals as goal

pub returns-then-carries-clause-onto : goal.returns-then-carries-clause-onto
returns-then-carries-clause-onto g c =
    let geometry = g.G.Grid.geometry in
    let law = g.met.G.Grid.laws in
    let k = c.args.k in
    let t = c.args.from in
    let u = c.args.to in
    let t_is = c.first_vector-first.ensures.triple in
    let u_is = c.first_vector-other_first.ensures.triple in
    let v = c.first_vector-first.result in
    let w = c.second_vector-second.result in
    let x = c.first_vector-other_first.result in
    let y = c.second_vector-other_second.result in
    let back_below = (law.inverse k c.requires).0 in (
      (λ e. record {
        into = by_vectors geometry law t u t_is u_is k c.requires v w c.first_vector-first.ensures.is c.second_vector-second.ensures.is (c.carries.ensures.0 c.if-carries.true);
        back = by_vectors geometry law u t u_is t_is (geometry.inverse k) back_below x y c.first_vector-other_first.ensures.is c.second_vector-other_second.ensures.is (subst (λ (l : ℕ). CarriesVectors geometry l x y t) c.inverse-back.ensures (c.carries-then-carries.ensures.0 e));
      }),
      (λ h. c.carries-then-carries.ensures.1 (subst (λ (l : ℕ). CarriesVectors geometry l x y t) (sym c.inverse-back.ensures) (vectors_by geometry law u t u_is t_is (geometry.inverse k) back_below x y c.first_vector-other_first.ensures.is c.second_vector-other_second.ensures.is h.back))),
    )

pub returns-else-carries-clause-onto : goal.returns-else-carries-clause-onto
returns-else-carries-clause-onto g c =
    let geometry = g.G.Grid.geometry in
    let law = g.met.G.Grid.laws in
    let t_is = c.first_vector-first.ensures.triple in
    let u_is = c.first_vector-other_first.ensures.triple in
    let v = c.first_vector-first.result in
    let w = c.second_vector-second.result in (
      (λ e. absurd (true≢false (sym e ∙ c.if-carries.false))),
      (λ h. c.carries.ensures.1 (vectors_by geometry law c.args.from c.args.to t_is u_is c.args.k c.requires v w c.first_vector-first.ensures.is c.second_vector-second.ensures.is h.into)),
    )
