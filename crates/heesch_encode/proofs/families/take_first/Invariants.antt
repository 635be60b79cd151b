use Rattle.std.proofs.Common.{take}
use Rattle.std.specs.Prelude.{flat_map}
use Rattle.heesch_encode.specs.Taking.{Takes}
use Rattle.heesch_encode.proofs.Pieces.{first_piece}
use Rattle.heesch_encode.proofs.families.take_first.Given as goal

abbrev pub invariant-loop-c : goal.invariant-loop-c
invariant-loop-c g l = Takes l.fn.collector l.collector (flat_map (first_piece l.plan.universe.now.vars) (take l.c-index l.c-items))
