use Rattle.std.proofs.Common.{◌+◌, ◌-◌, ◌≤◌, length}
use Rattle.heesch_torus.specs.Formula.{AddsClauses, marked_among}
use Rattle.heesch_torus.proofs.pairs.add_marked.Given as goal

abbrev pub invariant-loop-other : goal.invariant-loop-other
invariant-loop-other l = record {
  adds : AddsClauses (marked_among l.marks (l.at + 1) (l.other - ((l.at + 1) + 1))) l.initial.formula.vars l.initial.formula.clauses l.formula.vars l.formula.clauses;
  few : length l.formula.clauses ≤ length l.initial.formula.clauses + (l.other - ((l.at + 1) + 1));
}
