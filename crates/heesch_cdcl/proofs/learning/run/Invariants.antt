use Rattle.std.proofs.Common.{◌≤◌, ◌-◌, length}
use Rattle.heesch_cdcl.specs.Learning.{LearnsMore}
use Rattle.heesch_cdcl.specs.Searching.{Searches, SameFormula}
use Rattle.heesch_cdcl.proofs.learning.run.Given as goal

abbrev pub invariant-loop-number : goal.invariant-loop-number
invariant-loop-number l = record {
  searching : Searches l.lines l.work.trail;
  formula : SameFormula l.fn.lines l.fn.work.trail l.lines l.work.trail;
  few : length l.lines ≤ l.turns;
  learns : LearnsMore l.fn.lines l.lines;
}

abbrev pub decreases-loop-number : goal.decreases-loop-number
decreases-loop-number l = l.turns - length l.lines
