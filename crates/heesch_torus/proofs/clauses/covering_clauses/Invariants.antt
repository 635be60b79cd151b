use Rattle.std.proofs.Common.{◌≤◌, [], map, length}
use Rattle.heesch_cert.specs.Literals.{literals}
use Rattle.heesch_torus.specs.Covering.{lists_before}
use Rattle.heesch_torus.specs.Formula.{AddsClauses}
use Rattle.heesch_torus.proofs.clauses.covering_clauses.Given as goal

abbrev pub invariant-loop-k : goal.invariant-loop-k
invariant-loop-k g l = record {
  adds : AddsClauses (map (map literals.plus) (lists_before g.G.Grid.geometry l.incidence.sets.now.triple l.incidence.lists.now l.k)) (length l.incidence.sets.now.variables.now) [] l.formula.vars l.formula.clauses;
  few : length l.formula.clauses ≤ l.k;
}
