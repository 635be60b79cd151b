use Rattle.std.proofs.Common.{◌≡◌, reverse}
use Rattle.heesch_cdcl.specs.Marking.{pending_in}
use Rattle.heesch_cdcl.specs.Resolved.{IsDerived}
use Rattle.heesch_cdcl.proofs.analysis.Resolution.shorten.Given as goal

abbrev pub invariant-loop-place : goal.invariant-loop-place
invariant-loop-place l = record {
  derived : IsDerived l.trail l.place l.self.marks (reverse l.self.hints.items);
  same : pending_in l.self.marks ≡ pending_in l.fn.self.marks;
}

abbrev pub decreases-loop-place : goal.decreases-loop-place
decreases-loop-place l = l.place
