use Rattle.std.proofs.Common.{◌≡◌, ◌≤◌, ◌+◌, ◌-◌, length, drop}
use Rattle.heesch_grid.specs.Cells.{meet}
use Rattle.heesch_shape.proofs.contact.share_one.Given as goal

abbrev pub invariant-loop-i : goal.invariant-loop-i
invariant-loop-i l =
    (l.i ≤ length l.left) × (l.j ≤ length l.right) × (meet (drop l.i l.left) (drop l.j l.right) ≡ meet l.left l.right)

abbrev pub decreases-loop-i : goal.decreases-loop-i
decreases-loop-i l = (length l.left - l.i) + (length l.right - l.j)
