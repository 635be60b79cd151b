use Rattle.std.proofs.Common.{take}
use Rattle.std.specs.Prelude.{flat_map}
use Rattle.heesch_cnf.specs.Literals.{held}
use Rattle.heesch_encode.proofs.Pieces.{first_piece}
use Rattle.heesch_numbers.specs.Common.{AllRemain}
use Rattle.heesch_numbers.proofs.remain.first_remain.Given as goal

abbrev pub invariant-loop-c : goal.invariant-loop-c
invariant-loop-c g l = AllRemain (held l.values) (flat_map (first_piece l.plan.universe.now.vars) (take l.c-index l.cells))
