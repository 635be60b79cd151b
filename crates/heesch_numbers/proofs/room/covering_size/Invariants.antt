use Rattle.std.proofs.Common.{◌≡◌, take}
use Rattle.std.specs.Prelude.{min, sum_by}
use Rattle.heesch_grid.specs.Clauses.{formula_size}
use Rattle.heesch_encode.proofs.Pieces.{covering_piece}
use Rattle.heesch_numbers.specs.Moves.{moved_by}
use Rattle.heesch_numbers.proofs.room.covering_size.Given as goal

abbrev pub invariant-loop-i : goal.invariant-loop-i
invariant-loop-i g l = l.size ≡ min (sum_by (λ c. formula_size (covering_piece l.plan.shape.now l.plan.universe.now.vars l.var l.of c)) (take l.i (moved_by l.cells.step l.cells.ring.now))) l.most
