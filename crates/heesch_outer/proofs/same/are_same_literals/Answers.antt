use Rattle.std.proofs.Common.{◌≡◌, ap, ◌&&◌, eqb-true, eq-eqb, eqb}
use Rattle.std.specs.Bool.{Decides}
use Rattle.std.specs.Cmp.{booleans_Decides}
use Rattle.std.proofs.Math.Bool.{beq}
use Rattle.std.proofs.lemmas.Bool.{and_from, and_parts}
use Rattle.std.proofs.lemmas.Slice.Eq.{slice_eq-Decides}
use Rattle.heesch_cnf.specs.declared.literal.Lit.{Lit}
use Rattle.heesch_outer.proofs.same.are_same_literals.Goals as goal

same_literal : (x y : Lit) → Decides (eqb x.var y.var && beq x.positive y.positive) (x ≡ y)
same_literal x y = (
  (λ t.
      let both = and_parts (eqb x.var y.var) (beq x.positive y.positive) t in
      let var : x.var ≡ y.var = eqb-true x.var y.var both.0 in
      let positive : x.positive ≡ y.positive = (booleans_Decides x.positive y.positive).0 both.1 in
      λ i. record { var = var i; positive = positive i }),
  (λ e. and_from (eqb x.var y.var) (beq x.positive y.positive) (eq-eqb x.var y.var (ap (λ (l : Lit). l.var) e)) ((booleans_Decides x.positive y.positive).1 (ap (λ (l : Lit). l.positive) e))),
)

pub returns : goal.returns
returns c = slice_eq-Decides same_literal c.args.literals.now c.args.others.now c.eq.result c.eq.ensures
