use Rattle.std.proofs.Common.{take}
use Rattle.std.specs.Prelude.{flat_map}
use Rattle.heesch_cnf.specs.Literals.{held}
use Rattle.heesch_encode.proofs.Pieces.{covering_piece}
use Rattle.heesch_numbers.specs.Common.{AllRemain}
use Rattle.heesch_numbers.specs.Moves.{moved_by}
use Rattle.heesch_numbers.proofs.remain.covering_remain.Given as goal

abbrev pub invariant-loop-i : goal.invariant-loop-i
invariant-loop-i g l = AllRemain (held l.values) (flat_map (covering_piece l.plan.shape.now l.plan.universe.now.vars l.var l.of) (take l.i (moved_by l.cells.step l.cells.ring.now)))
