use Rattle.heesch_cdcl.proofs.Models.{Inner-opened}
use Rattle.heesch_cdcl.proofs.solver.Solver.over.Goals as goal

pub invariant_of-result : goal.invariant_of-result
invariant_of-result c =
    let f = c.args.formula in
    Inner-opened c.args.turns c.first_empty-empty.result f.vars f.clauses c.in_ok-over.field-0.trail c.new.result c.in_ok-over.ensures.opened c.in_ok-over.ensures.valid c.new.ensures
    c.first_empty-empty.ensures c.requires.room

pub returns-clause-valid : goal.returns-clause-valid
returns-clause-valid c = let inner = invariant_of-result c in inner.solver
