use Rattle.std.proofs.Common.{ℕ, false, take, length, get_or, subst, sym, arith, ◌++◌, ◌∷◌, []}
use Rattle.heesch_cnf.specs.declared.literal.Lit.{Lit}
use Rattle.heesch_exchange.specs.Models.{IsAssignment}
use Rattle.heesch_exchange.proofs.Naming.{over_most, goes_assigned}
use Rattle.heesch_exchange.proofs.named.make_all_true.Goals as goal

pub make_true-requires-clause-high : goal.make_true-requires-clause-high
make_true-requires-clause-high c =
    let d : Lit = record { var = 0; positive = false } in
    let most = over_most (length c.args.values.now) c.args.literals.now c.loop-literal.literal-index d c.requires.over c.loop-literal-test.true in
    let count = c.loop-literal.invariant.count in
    omega arith

pub loop-literal-preserved : goal.loop-literal-preserved
loop-literal-preserved c =
    let d : Lit = record { var = 0; positive = false } in
    let i = c.loop-literal.literal-index in
    let front = take i c.args.literals.now in
    let count = c.loop-literal.invariant.count in
    let now = subst (λ (n : ℕ). IsAssignment n front c.loop-literal.values) (sym count) c.loop-literal.invariant in
    let made = subst (λ (n : ℕ). IsAssignment n (front ++ get_or c.args.literals.now i d ∷ []) c.make_true.new.values) count (c.make_true.ensures front now) in
    goes_assigned (length c.args.values.now) c.args.literals.now i d c.make_true.new.values c.loop-literal-test.true made
