use Rattle.std.proofs.Common.{take}
use Rattle.std.specs.Prelude.{flat_map}
use Rattle.heesch_encode.specs.Taking.{Takes}
use Rattle.heesch_encode.proofs.Pieces.{apart_piece}
use Rattle.heesch_encode.proofs.families.take_apart.Given as goal

abbrev pub invariant-loop-other : goal.invariant-loop-other
invariant-loop-other g l = Takes l.fn.collector l.collector (flat_map (apart_piece l.plan.universe.now.vars l.var) (take l.other-index l.other-items))
