use Rattle.std.proofs.Common.{◌≡◌, ◌++◌, take, length}
use Rattle.heesch_exchange.specs.ClauseTexts.{problem_line, clause_lines}
use Rattle.heesch_exchange.proofs.clauses.append_formula.Given as goal

abbrev pub invariant-loop-clause : goal.invariant-loop-clause
invariant-loop-clause l = l.out.items ≡ l.fn.out.items ++ (problem_line l.formula.vars (length l.formula.clauses) ++ clause_lines (take l.clause-index l.formula.clauses))
