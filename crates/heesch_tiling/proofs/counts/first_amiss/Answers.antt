use Rattle.std.proofs.Common.{◌<◌, sym, ap, subst, ◌∙◌, arith, inl, inr}
use Rattle.std.proofs.lemmas.Bool.{cases_order}
use Rattle.heesch_tiling.specs.Counting.{is_amiss_at}
use Rattle.heesch_tiling.proofs.counts.first_amiss.Goals as goal

pub returns-then-is_amiss-clause-found : goal.returns-then-is_amiss-clause-found
returns-then-is_amiss-clause-found g c = record {
  at = c.loop-k.k;
  below = subst (λ n. c.loop-k.k < n) c.requires.all c.loop-k-test.true;
  is = c.pair_at.ensures.is;
  amiss = sym c.is_amiss.ensures ∙ c.if-is_amiss.true;
  before = c.loop-k.invariant;
}

pub loop-k-preserved : goal.loop-k-preserved
loop-k-preserved g c =
    λ j l. elim (cases_order j c.loop-k.k) [
      | inl e ↦ ap (is_amiss_at g.G.Grid.geometry c.args.triple c.args.counts.now c.args.low c.args.most) e ∙ sym c.is_amiss.ensures ∙ c.if-is_amiss.false
      | inr o ↦ elim o [ inl less ↦ c.loop-k.invariant j less | inr more ↦ absurd (omega (arith, l, more)) ]
    ]

pub returns-clause-none : goal.returns-clause-none
returns-clause-none g c =
    λ k l. c.loop-k.invariant k (let all = c.requires.all in omega (arith, l, all, c.loop-k-test.false))
