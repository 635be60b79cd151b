use Rattle.std.proofs.Common.{◌≡◌, ◌+◌, length, take}
use Rattle.std.specs.Prelude.{sum_by}
use Rattle.heesch_grid.specs.OwnerFormula.{owner_count, owner_clauses}
use Rattle.heesch_cert.specs.Literals.{literals}
use Rattle.heesch_encode.specs.Taking.{Takes}
use Rattle.heesch_encode.proofs.owners.take_owners.Given as goal

abbrev pub invariant-loop-c : goal.invariant-loop-c
invariant-loop-c g l = record {
  start : l.start ≡ length l.universe.vars + 1 + sum_by (owner_count l.universe.vars) (take l.c-index l.owned);
  taken : Takes l.fn.collector l.collector (owner_clauses literals l.universe.vars (length l.universe.vars + 1) (take l.c-index l.owned));
}
