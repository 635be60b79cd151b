use Rattle.std.proofs.Common.{◌≡◌, take}
use Rattle.std.specs.Prelude.{flat_map}
use Rattle.std.specs.List.{enumerate_from}
use Rattle.heesch_encode.proofs.Holders.{found_cells}
use Rattle.heesch_encode.proofs.owned.owned_cells.Given as goal

abbrev pub invariant-loop-i : goal.invariant-loop-i
invariant-loop-i g l = l.cells.items ≡ flat_map (found_cells l.universe.vars) (take l.i (enumerate_from 1 l.universe.vars))
