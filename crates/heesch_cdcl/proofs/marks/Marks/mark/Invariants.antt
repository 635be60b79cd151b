use Rattle.std.proofs.Common.{◌≤◌, take}
use Rattle.heesch_cdcl.specs.Marking.{AreMarks, MarksClause, pending_in}
use Rattle.heesch_cdcl.proofs.marks.Marks.mark.Given as goal

abbrev pub invariant-loop-lit : goal.invariant-loop-lit
invariant-loop-lit l = record {
  marks : AreMarks l.trail l.level l.self;
  seen : MarksClause l.fn.self.seen l.self.seen (take l.lit-index l.clause);
  more : pending_in l.fn.self ≤ pending_in l.self;
}
