use Rattle.std.proofs.Common.{◌++◌, ◌≡◌, drop, vec_len}
use Rattle.heesch_cnf.specs.Literals.{held}
use Rattle.heesch_cnf.specs.Lines.{reaches_conflict}
use Rattle.heesch_rup.proofs.hints.reaches_conflict.Given as goal

abbrev pub invariant-loop-i : goal.invariant-loop-i
invariant-loop-i g l = record {
  room : vec_len l.assignment.values ≡ vec_len l.fn.assignment.values;
  same : reaches_conflict ((g.C.ClauseSource.listed l.formula).clauses ++ l.added.clauses) (held l.assignment.values.items) (drop l.i l.hints)
      ≡ reaches_conflict ((g.C.ClauseSource.listed l.formula).clauses ++ l.added.clauses) (held l.fn.assignment.values.items) l.hints;
}
