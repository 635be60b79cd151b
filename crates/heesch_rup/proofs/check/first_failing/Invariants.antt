use Rattle.std.proofs.Common.{◌≡◌, ℕ, ◌<◌, ◌≤◌, vec_len}
use Rattle.heesch_cnf.specs.Literals.{held}
use Rattle.heesch_cnf.specs.Lines.{HoldsAtLine}
use Rattle.heesch_rup.specs.Assigned.{all_open}
use Rattle.heesch_rup.proofs.check.first_failing.Given as goal

abbrev pub invariant-loop-i : goal.invariant-loop-i
invariant-loop-i g l = record {
  room : vec_len l.assignment.values ≡ vec_len l.fn.assignment.values;
  open_ : held l.assignment.values.items ≡ all_open;
  hold : (k : ℕ) → l.from ≤ k → k < l.i → HoldsAtLine (g.C.ClauseSource.listed l.formula).vars (g.C.ClauseSource.listed l.formula).clauses (g.S.Steps.written l.steps).lines k;
}
