use Rattle.std.proofs.Common.{length, get_or, sym, ap, subst, ◌∙◌, arith}
use Rattle.heesch_cnf.specs.Clauses.{IsClause}
use Rattle.heesch_cnf.specs.Flat.{Clauses}
use Rattle.heesch_cnf.proofs.flat.FlatFormula.of.Goals as goal

pub add-requires-clause-form : goal.add-requires-clause-form
add-requires-clause-form c =
    let vars = ap (λ (x : Clauses). x.vars) c.loop-clause.invariant in
    let slice = c.as_slice-clause-items.ensures in
    let k = c.loop-clause.clause-index in
    let item = c.clause-item.result in
    let size = ap length slice in
    let clause = c.args.formula.now.well_formed k item (omega (arith, size, c.loop-clause-test.true)) in
    let same = c.as_slice.ensures ∙ c.clause-item.is ∙ ap (λ cs. get_or cs k item) slice in
    subst (λ n. IsClause n c.as_slice.result.now) (sym vars) (subst (IsClause c.args.formula.now.vars) (sym same) clause)
