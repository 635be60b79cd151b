use Rattle.std.proofs.Common.{get_or, []}
use Rattle.heesch_cnf.specs.Clauses.{assignment_of}
use Rattle.heesch_exchange.proofs.Untrue.{NoneTrue}
use Rattle.heesch_exchange.proofs.falsity.is_satisfied.Given as goal

abbrev pub invariant-loop-place : goal.invariant-loop-place
invariant-loop-place g l = NoneTrue (assignment_of l.values) (get_or (g.F.HasLiterals.clauses l.formula) l.index []) l.place
