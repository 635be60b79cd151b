use Rattle.std.proofs.Common.{ℕ, false, ◌++◌, length, take, get_or, subst}
use Rattle.heesch_cnf.specs.declared.literal.Lit.{Lit}
use Rattle.heesch_exchange.specs.Lines.{IsFresh}
use Rattle.heesch_exchange.proofs.Naming.{goes_over, goes_named, stops_over}
use Rattle.heesch_exchange.proofs.named.name_all.Goals as goal

pub returns-then-not-name : goal.returns-then-not-name
returns-then-not-name c = λ before marks over.
    let d : Lit = record { var = 0; positive = false } in
    let i = c.loop-literal.literal-index in
    let so = c.loop-literal.invariant before marks over in
    let stale = c.if-not-name.ensures (before ++ take i c.args.literals.now) so.0 in
    stops_over (length c.args.named.now) before c.args.literals.now i d c.loop-literal-test.true
    (subst (λ (n : ℕ). ¬ (IsFresh n (before ++ take i c.args.literals.now) (get_or c.args.literals.now i d))) c.loop-literal.auto.named stale)

pub loop-literal-preserved : goal.loop-literal-preserved
loop-literal-preserved c = λ before marks over.
    let d : Lit = record { var = 0; positive = false } in
    let i = c.loop-literal.literal-index in
    let so = c.loop-literal.invariant before marks over in
    let named = c.if-not-name.ensures (before ++ take i c.args.literals.now) so.0 in
    let fresh = subst (λ (n : ℕ). IsFresh n (before ++ take i c.args.literals.now) (get_or c.args.literals.now i d)) c.loop-literal.auto.named named.1 in (
      goes_named before c.args.literals.now i d c.name.new.named c.loop-literal-test.true named.0,
      goes_over (length c.args.named.now) before c.args.literals.now i d c.loop-literal-test.true so.1 fresh,
    )
