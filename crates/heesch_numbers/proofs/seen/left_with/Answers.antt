use Rattle.std.proofs.Common.{◌≡◌, ◌∷◌, [], ◌&&◌, true, false, true≢false, eqb, eqb-true, eq-eqb, sym, ap, ◌∙◌, subst}
use Rattle.std.proofs.Math.Bool.{beq}
use Rattle.std.proofs.lemmas.Bool.{and_parts, and_from}
use Rattle.std.specs.Cmp.{booleans_Decides}
use Rattle.heesch_cnf.specs.declared.literal.Lit.{Lit}
use Rattle.heesch_cnf.specs.Literals.{held}
use Rattle.heesch_numbers.specs.Seen.{IsSeen}
use Rattle.heesch_numbers.proofs.Seeing.{seen_out, seen_first, seen_again, seen_second, seen_more}
use Rattle.heesch_numbers.proofs.seen.left_with.Goals as goal

-- literals that compare as equal are equal
same : (x y : Lit) → true ≡ (eqb x.var y.var && beq x.positive y.positive) → x ≡ y
same x y t =
    let both = and_parts (eqb x.var y.var) (beq x.positive y.positive) (sym t) in
    let var = eqb-true x.var y.var both.0 in
    let sign = (booleans_Decides x.positive y.positive).0 both.1 in
    λ i. record { var = var i; positive = sign i }

differ : (x y : Lit) → false ≡ (eqb x.var y.var && beq x.positive y.positive) → ¬ (x ≡ y)
differ x y f e =
    true≢false (sym (and_from (eqb x.var y.var) (beq x.positive y.positive) (eq-eqb x.var y.var (ap (λ (l : Lit). l.var) e)) ((booleans_Decides x.positive y.positive).1 (ap (λ (l : Lit). l.positive) e))) ∙ sym f)

pub returns-then-is_out : goal.returns-then-is_out
returns-then-is_out c = λ seen h. seen_out (held c.args.values.now) seen c.args.lit c.args.left (sym c.is_out.ensures ∙ c.if-is_out.true) h

pub returns-in-Nothing : goal.returns-in-Nothing
returns-in-Nothing c = λ seen h. seen_first (held c.args.values.now) seen c.args.lit (sym c.is_out.ensures ∙ c.if-is_out.false) (subst (IsSeen (held c.args.values.now) seen) c.in-Nothing.is h)

pub returns-then-eq : goal.returns-then-eq
returns-then-eq c = λ seen h. seen_again (held c.args.values.now) seen c.args.lit c.in-One.one (same c.in-One.one c.args.lit c.if-eq.ensures) (subst (IsSeen (held c.args.values.now) seen) c.in-One.is h)

pub returns-else-eq : goal.returns-else-eq
returns-else-eq c = λ seen h.
    seen_second (held c.args.values.now) seen c.args.lit c.in-One.one (sym c.is_out.ensures ∙ c.if-is_out.false) (differ c.in-One.one c.args.lit c.if-eq.ensures) (subst (IsSeen (held c.args.values.now) seen) c.in-One.is h)

pub returns-in-More : goal.returns-in-More
returns-in-More c = λ seen h. seen_more (held c.args.values.now) seen (c.args.lit ∷ []) (subst (IsSeen (held c.args.values.now) seen) c.in-More.is h)
