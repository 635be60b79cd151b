use Rattle.std.proofs.Common.{subst}
use Rattle.heesch_cnf.specs.Clauses.{AreClauses}
use Rattle.heesch_cnf.specs.Flat.{Clauses}
use Rattle.heesch_rup.proofs.indexed.IndexedFormulaClauseSource.vars.Goals as goal

pub returns-clause-form : goal.returns-clause-form
returns-clause-form c = subst (λ (x : Clauses). AreClauses x.vars x.clauses) c.self.view_is c.self.invariant.form
