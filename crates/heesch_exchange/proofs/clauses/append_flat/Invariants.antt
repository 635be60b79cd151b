use Rattle.std.proofs.Common.{◌≡◌, ◌++◌, take, length}
use Rattle.heesch_exchange.specs.ClauseTexts.{problem_line, clause_lines}
use Rattle.heesch_exchange.proofs.clauses.append_flat.Given as goal

abbrev pub invariant-loop-index : goal.invariant-loop-index
invariant-loop-index l = l.out.items ≡ l.fn.out.items ++ (problem_line l.formula.vars (length l.formula.clauses) ++ clause_lines (take l.index l.formula.clauses))
