use Rattle.std.proofs.Common.{◌∷◌, [], List, cond, not, sym, ap, ◌∙◌, subst}
use Rattle.heesch_cnf.specs.declared.literal.Lit.{Lit}
use Rattle.heesch_cnf.specs.Literals.{held}
use Rattle.heesch_grid.specs.Cells.{has}
use Rattle.heesch_grid.specs.Clauses.{clause_of, is_numbered}
use Rattle.heesch_grid.specs.CoronaFormula.{covers}
use Rattle.heesch_cert.specs.Literals.{literals}
use Rattle.heesch_numbers.specs.Common.{AllRemain}
use Rattle.heesch_numbers.proofs.Remaining.{none_to_remain, one_answer}
use Rattle.heesch_numbers.proofs.remain.cell_remains.Goals as goal

pub returns-then-has : goal.returns-then-has
returns-then-has g c = λ x number out.
    let v = held c.args.values.now in
    let clause : List Lit = clause_of literals (is_numbered c.args.var) (covers c.args.most c.args.c) c.args.plan.now.universe.now.vars in
    subst (λ b. AllRemain v (cond (not b) (clause ∷ []) [])) (sym (sym c.has.ensures ∙ c.if-has.true)) (none_to_remain v)

pub returns : goal.returns
returns g c = λ x number out.
    let v = held c.args.values.now in
    let clause : List Lit = clause_of literals (is_numbered c.args.var) (covers c.args.most c.args.c) c.args.plan.now.universe.now.vars in
    one_answer v clause (cond (not (has c.args.plan.now.shape.now c.args.c)) (clause ∷ []) []) c.remains.result (sym (ap (λ b. cond (not b) (clause ∷ []) []) (sym c.has.ensures ∙ c.if-has.false)))
    (c.remains.ensures v clause (c.left_of_cover.ensures x number out))
