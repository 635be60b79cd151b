use Rattle.std.proofs.Common.{◌≡◌, take}
use Rattle.heesch_cnf.proofs.flat.FlatFormula.of.Given as goal

abbrev pub invariant-loop-clause : goal.invariant-loop-clause
invariant-loop-clause l = l.flat ≡ record { vars = l.formula.vars; clauses = take l.clause-index l.formula.clauses }
