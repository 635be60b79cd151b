use Rattle.std.proofs.Common.{◌≡◌, get_or, [], sym, subst, ◌∙◌, arith}
use Rattle.heesch_cnf.specs.Clauses.{IsClause}
use Rattle.heesch_cnf.proofs.flat.FlatFormula.to_formula.Goals as goal

pub add-requires-clause-form : goal.add-requires-clause-form
add-requires-clause-form c =
    let clauses = c.args.self.now.clauses in
    let i = c.loop-index.index in
    let form : IsClause c.args.self.now.vars (get_or clauses i []) = c.vars.ensures.form i [] (omega (arith, c.loop-index-test.true, c.len-index-end.ensures.count)) in
    let same : c.from_vec.result ≡ get_or clauses i [] = c.from_vec.ensures ∙ c.in_ok-literals.ensures ∙ c.clause.ensures in
    subst (λ n. IsClause n c.from_vec.result) (sym c.loop-index.invariant.vars) (subst (IsClause c.args.self.now.vars) (sym same) form)
