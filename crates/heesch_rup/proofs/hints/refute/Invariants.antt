use Rattle.std.proofs.Common.{◌≡◌, drop, vec_len}
use Rattle.heesch_cnf.specs.Literals.{held}
use Rattle.heesch_cnf.specs.Lines.{refuting}
use Rattle.heesch_rup.proofs.hints.refute.Given as goal

abbrev pub invariant-loop-i : goal.invariant-loop-i
invariant-loop-i l = record {
  room : vec_len l.assignment.values ≡ vec_len l.fn.assignment.values;
  refuted : held l.assignment.values.items ≡ refuting (drop l.i l.clause);
}
