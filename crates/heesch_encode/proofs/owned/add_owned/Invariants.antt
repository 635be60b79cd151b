use Rattle.std.proofs.Common.{◌≡◌, ◌++◌, filter, take}
use Rattle.heesch_encode.specs.Owners.{is_first_holder}
use Rattle.heesch_encode.proofs.owned.add_owned.Given as goal

abbrev pub invariant-loop-c : goal.invariant-loop-c
invariant-loop-c g l = l.cells.items ≡ l.fn.cells.items ++ filter (is_first_holder l.universe.vars l.var) (take l.c-index l.c-items)
