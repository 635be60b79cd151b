use Rattle.std.proofs.Common.{subst}
use Rattle.heesch_cnf.specs.Clauses.{AreClauses}
use Rattle.heesch_tori.specs.TorusView.{TorusView}
use Rattle.heesch_tori.proofs.Clauses.{clauses_form_of}
use Rattle.heesch_tori.proofs.source.TorusSourceClauseSource.vars.Goals as goal

pub returns-clause-form : goal.returns-clause-form
returns-clause-form g c = subst (λ (s : TorusView). AreClauses s.formula.vars s.formula.clauses) c.self.view_is (clauses_form_of c.self.inside.table.variables c.self.inside.table.lists c.count.ensures.lists)
