use Rattle.std.proofs.Common.{take}
use Rattle.heesch_cnf.specs.Clauses.{assignment_of, Satisfies}
use Rattle.heesch_exchange.proofs.falsity.first_false.Given as goal

abbrev pub invariant-loop-index : goal.invariant-loop-index
invariant-loop-index g l = Satisfies (assignment_of l.values) (take l.index (g.F.HasLiterals.clauses l.formula))
