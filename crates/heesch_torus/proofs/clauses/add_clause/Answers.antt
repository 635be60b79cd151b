use Rattle.std.proofs.Common.{List, sym, ◌∙◌, subst}
use Rattle.heesch_cnf.specs.declared.literal.Lit.{Lit}
use Rattle.heesch_cnf.specs.Clauses.{IsClause}
use Rattle.heesch_torus.proofs.Numbering.{numbers_clause}
use Rattle.heesch_torus.proofs.clauses.add_clause.Goals as goal

pub add-requires-clause-form : goal.add-requires-clause-form
add-requires-clause-form c = subst (λ (cl : List Lit). IsClause c.args.formula.now.vars cl) (sym (c.as_slice.ensures.value ∙ c.in_ok-write_clause.ensures)) (numbers_clause c.args.formula.now.vars c.args.variables.now c.requires.numbers)
