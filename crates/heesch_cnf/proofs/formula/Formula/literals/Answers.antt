use Rattle.std.proofs.Common.{ap, sym, subst, ◌≤◌, ◌^◌, length, List, arith}
use Rattle.heesch_cnf.specs.declared.literal.Lit.{Lit}
use Rattle.heesch_cnf.specs.Clauses.{AreClauses}
use Rattle.heesch_cnf.proofs.Sizes.{literals_fit}
use Rattle.heesch_cnf.proofs.formula.Formula.literals.Goals as goal

pub overflow_add-count : goal.overflow_add-count
overflow_add-count c =
    let formula = c.args.self.now in
    let clauses = c.as_slice-clause-items.result.now in
    let few : length clauses ≤ 2 ^ 31 = subst (λ (cs : List (List Lit)). length cs ≤ 2 ^ 31) (sym c.as_slice-clause-items.ensures) formula.few in
    let form = subst (AreClauses formula.vars) (sym c.as_slice-clause-items.ensures) formula.well_formed in
    let fits = literals_fit formula.vars clauses c.loop-clause.clause-index c.clause-item.result (omega arith) few form c.loop-clause-test.true in
    omega (arith, c.loop-clause.invariant, ap length c.clause-item.is)
