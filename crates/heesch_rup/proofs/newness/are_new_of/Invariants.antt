use Rattle.std.proofs.Common.{◌≡◌, ◌+◌, vec_len}
use Rattle.heesch_cnf.specs.Literals.{held}
use Rattle.heesch_rup.specs.Answer.{AreNewBetween}
use Rattle.heesch_rup.specs.Assigned.{all_open}
use Rattle.heesch_rup.proofs.newness.are_new_of.Given as goal

abbrev pub invariant-loop-i : goal.invariant-loop-i
invariant-loop-i g l = record {
  room : vec_len l.assignment.values ≡ l.added.vars + 1;
  open_ : held l.assignment.values.items ≡ all_open;
  fresh : AreNewBetween (g.N.ClauseSource.listed l.formula).clauses (g.S.Steps.written l.steps).lines l.from l.i;
}
