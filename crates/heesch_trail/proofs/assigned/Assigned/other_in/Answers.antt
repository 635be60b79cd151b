use Rattle.std.proofs.Common.{◌≡◌, ◌≢◌, Some, false, take, get_or, All, sym, subst, ◌∙◌, arith}
use Rattle.std.proofs.lemmas.List.{take_more, take_all}
use Rattle.std.proofs.lemmas.List.Elements.{All-push}
use Rattle.heesch_cnf.specs.declared.literal.Lit.{Lit}
use Rattle.heesch_cnf.specs.Literals.{lit_value}
use Rattle.heesch_trail.specs.State.{values_of}
use Rattle.heesch_trail.proofs.Settled.{false_value}
use Rattle.heesch_trail.proofs.Guards.{Same-lit}
use Rattle.heesch_trail.proofs.assigned.Assigned.other_in.Goals.{else-not-is_false-via-then-not-is_false+else-ne, else-not-is_false-via-else-not-is_false}
use Rattle.heesch_trail.proofs.assigned.Assigned.other_in.Goals as goal

pub loop-other-preserved : goal.loop-other-preserved
loop-other-preserved c =
    let P : Lit → Type 0 = λ x. x ≢ c.args.lit → lit_value (values_of c.args.self.now.steps) x ≡ Some false in
    let here : P c.other-item.result = elim c.else-not-is_false.branch [
      | else-not-is_false-via-then-not-is_false+else-ne w ↦ λ out. absurd (out (Same-lit c.other-item.result c.args.lit (sym w.ne.ensures ∙ w.if-ne.false)))
      | else-not-is_false-via-else-not-is_false w ↦ λ out. false_value (lit_value (values_of c.args.self.now.steps) c.other-item.result) (sym c.is_false.ensures ∙ w.if-not-is_false.false)
    ] in
    subst (All P) (sym (take_more c.args.clause.now c.loop-other.other-index c.other-item.result c.loop-other-test.true))
    (All-push P (take c.loop-other.other-index c.args.clause.now) (get_or c.args.clause.now c.loop-other.other-index c.other-item.result) c.loop-other.invariant (subst P c.other-item.is here))

pub returns : goal.returns
returns c =
    let P : Lit → Type 0 = λ x. x ≢ c.args.lit → lit_value (values_of c.args.self.now.steps) x ≡ Some false in
    subst (All P) (take_all c.loop-other.other-index c.args.clause.now (omega (arith, c.loop-other-test.false))) c.loop-other.invariant
