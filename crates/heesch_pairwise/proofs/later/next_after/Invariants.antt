use Rattle.std.proofs.Common.{◌≡◌, length, take}
use Rattle.heesch_pairwise.specs.Later.{ArePassedAt, IsNextAfter}
use Rattle.heesch_pairwise.proofs.later.next_after.Given as goal

abbrev pub invariant-loop-i : goal.invariant-loop-i
invariant-loop-i g l = record {
  size : length l.counts ≡ length l.fn.counts;
  passed : ArePassedAt l.universe.vars l.cells l.counts l.n;
  next : IsNextAfter l.universe.vars (take l.i l.cells) l.n l.least;
}
