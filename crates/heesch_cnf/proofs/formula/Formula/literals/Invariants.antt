use Rattle.std.proofs.Common.{◌≡◌, length, take, sum_by}
use Rattle.heesch_cnf.proofs.formula.Formula.literals.Given as goal

abbrev pub invariant-loop-clause : goal.invariant-loop-clause
invariant-loop-clause l = l.count ≡ sum_by length (take l.clause-index l.clause-items)
