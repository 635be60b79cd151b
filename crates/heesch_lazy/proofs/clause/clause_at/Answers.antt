use Rattle.std.proofs.Common.{[], sym, subst, arith}
use Rattle.heesch_cnf.specs.Clauses.{IsClause}
use Rattle.heesch_lazy.proofs.clause.clause_at.Goals as goal

pub returns-then-index-len : goal.returns-then-index-len
returns-then-index-len c =
    subst (IsClause c.args.formula.now.vars) (sym c.clause.ensures) (c.vars-vars.ensures.form c.args.index [] (omega arith))
