use Rattle.std.proofs.Common.{◌≡◌, take}
use Rattle.heesch_cnf.proofs.flat.FlatFormula.to_formula.Given as goal

abbrev pub invariant-loop-index : goal.invariant-loop-index
invariant-loop-index l = record { vars : l.formula.vars ≡ l.self.vars; clauses : l.formula.clauses ≡ take l.index l.self.clauses }
