use Rattle.std.proofs.Common.{◌≡◌, ◌≤◌, false, option_to_list, sym, ap, subst, ◌∙◌}
use Rattle.heesch_cnf.specs.declared.literal.Lit.{Lit}
use Rattle.heesch_cnf.specs.Literals.{lit_value, is_false_value}
use Rattle.heesch_trail.specs.declared.pair.Pair.{Pair}
use Rattle.heesch_trail.specs.Readings.{AreLeft}
use Rattle.heesch_trail.specs.State.{values_of}
use Rattle.heesch_trail.proofs.Settled.{Left-two}
use Rattle.heesch_trail.proofs.assigned.Assigned.read_clause.Goals as goal

pub is_false-requires : goal.is_false-requires
is_false-requires c =
    let range = c.requires.form.in_range c.loop-lit.lit-index c.lit-item.result c.loop-lit-test.true in
    subst (λ (l : Lit). l.var ≤ c.args.self.now.vars) (sym c.lit-item.is) range.1

pub returns-in-Some : goal.returns-in-Some
returns-in-Some c =
    let values = values_of c.args.self.now.steps in (
      subst (λ (l : Lit). let pair : Pair = record { one = c.in-Some.one; other = l } in AreLeft values c.args.clause.now pair) (sym c.lit-item.is)
          (Left-two c.args.self.now.vars values c.args.clause.now c.loop-lit.lit-index c.lit-item.result c.in-Some.one c.requires.form c.loop-lit-test.true
          (c.loop-lit.invariant ∙ ap option_to_list c.in-Some.is) (subst (λ (l : Lit). is_false_value (lit_value values l) ≡ false) c.lit-item.is (sym c.is_false.ensures ∙ c.if-not-is_false.true))),
      c.is_binary.ensures,
    )
