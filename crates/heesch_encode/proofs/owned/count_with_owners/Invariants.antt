use Rattle.std.proofs.Common.{◌≡◌, ◌+◌, ◌<◌, ◌^◌, length, take}
use Rattle.std.specs.Prelude.{sum_by}
use Rattle.heesch_grid.specs.OwnerFormula.{owner_count}
use Rattle.heesch_encode.proofs.owned.count_with_owners.Given as goal

abbrev pub invariant-loop-c : goal.invariant-loop-c
invariant-loop-c g l = record {
  count : l.count ≡ length l.universe.vars + sum_by (owner_count l.universe.vars) (take l.c-index l.owned);
  small : l.count < 2 ^ 31;
}
