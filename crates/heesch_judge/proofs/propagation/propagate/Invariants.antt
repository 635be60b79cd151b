use Rattle.heesch_cnf.specs.Lines.{clauses_with}
use Rattle.heesch_cnf.specs.Literals.{held}
use Rattle.heesch_judge.specs.Propagation.{Forces, open_count}
use Rattle.heesch_judge.proofs.propagation.propagate.Given as goal

abbrev pub invariant-passes : goal.invariant-passes
invariant-passes g l = Forces (clauses_with (g.C.ClauseSource.listed l.formula).clauses (g.S.Steps.written l.steps).lines) (held l.fn.values) (held l.values)

abbrev pub decreases-passes : goal.decreases-passes
decreases-passes g l = open_count l.values
