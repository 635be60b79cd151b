use Rattle.std.proofs.Common.{◌∷◌, ◌++◌, [], take}
use Rattle.std.specs.Prelude.{flat_map}
use Rattle.heesch_cnf.specs.Literals.{held}
use Rattle.heesch_cert.specs.Literals.{literals}
use Rattle.heesch_encode.specs.Literals.{plus_all}
use Rattle.heesch_numbers.specs.Common.{supporters_at}
use Rattle.heesch_numbers.specs.Moves.{moved_by}
use Rattle.heesch_numbers.specs.Seen.{IsSeen}
use Rattle.heesch_numbers.proofs.walks.left_of_support.Given as goal

abbrev pub invariant-loop-i : goal.invariant-loop-i
invariant-loop-i g l =
    IsSeen (held l.values) ((literals.minus l.var ∷ []) ++ plus_all (flat_map (supporters_at l.plan.universe.now.vars l.tile l.above l.below) (take l.i (moved_by l.cells.step l.cells.ring.now)))) l.left
