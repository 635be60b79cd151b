use Rattle.std.proofs.Common.{◌≡◌, ◌≤◌, length, take}
use Rattle.heesch_numbers.specs.Common.{outside}
use Rattle.heesch_numbers.specs.Moves.{moved_by}
use Rattle.heesch_numbers.proofs.surround.cell_outside.Given as goal

abbrev pub invariant-loop-i : goal.invariant-loop-i
invariant-loop-i g l = record {
  count : l.passed ≡ length (outside l.shape (take l.i (moved_by l.cells.step l.cells.ring.now)));
  few : l.passed ≤ l.place;
}
