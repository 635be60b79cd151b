use Rattle.std.proofs.Common.{◌≤◌, All, length, take}
use Rattle.heesch_grid.specs.OwnerFormula.{holders}
use Rattle.heesch_pairwise.proofs.pairs.most_with.Given as goal

abbrev pub invariant-loop-c : goal.invariant-loop-c
invariant-loop-c g l = record {
  more : l.most ≤ l.found;
  each : All (λ c. length (holders l.universe.vars c) ≤ l.found) (take l.c-index l.c-items);
}
