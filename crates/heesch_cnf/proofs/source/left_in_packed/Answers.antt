use Rattle.std.proofs.Common.{not, ap, sym, ◌∙◌}
use Rattle.heesch_cnf.specs.declared.literal.Lit.{Lit}
use Rattle.heesch_cnf.specs.Literals.{held, lit_value, is_false_value}
use Rattle.heesch_cnf.proofs.Reading.{two_kept}
use Rattle.heesch_cnf.proofs.source.left_in_packed.Goals as goal

pub returns-then-is_some : goal.returns-then-is_some
returns-then-is_some c =
    let d : Lit = c.packed-item.result in
    let values = held c.args.values.now in
    let item = ap (λ m. is_false_value (lit_value values m)) (c.lit-lit.ensures ∙ c.packed-item.is) in
    two_kept (λ m. not (is_false_value (lit_value values m))) c.args.clause.now c.loop-packed.packed-index d c.loop-packed.left
    c.loop-packed-test.true (ap not (sym item ∙ sym c.is_false.ensures ∙ c.if-not-is_false.true)) c.loop-packed.invariant (sym c.is_some.ensures ∙ c.if-is_some.true)
