use Rattle.std.proofs.Common.{◌≡◌, length, take}
use Rattle.std.specs.Prelude.{min, sum_by}
use Rattle.heesch_grid.specs.Clauses.{clause_of, no_variable}
use Rattle.heesch_grid.specs.CoronaFormula.{covers}
use Rattle.heesch_cert.specs.Literals.{literals}
use Rattle.heesch_numbers.proofs.room.first_size.Given as goal

abbrev pub invariant-loop-c : goal.invariant-loop-c
invariant-loop-c g l = l.size ≡ min (sum_by (λ c. length (clause_of literals no_variable (covers 1 c) l.plan.universe.now.vars)) (take l.c-index l.cells)) l.most
