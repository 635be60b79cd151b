use Rattle.std.proofs.Common.{◌≡◌, ℕ, ◌<◌, ◌≤◌, false, length}
use Rattle.heesch_grid.specs.Cells.{meet, set_of}
use Rattle.heesch_corona.proofs.meetings.first_meeting.Given as goal

abbrev pub invariant-loop-at : goal.invariant-loop-at
invariant-loop-at l = (m n : ℕ) → 1 ≤ m → m ≤ l.at → m < n → n ≤ length l.index → meet (set_of l.index m) (set_of l.index n) ≡ false
