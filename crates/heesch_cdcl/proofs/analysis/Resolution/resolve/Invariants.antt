use Rattle.std.proofs.Common.{reverse}
use Rattle.heesch_cdcl.specs.Resolved.{IsResolving, HasPending}
use Rattle.heesch_cdcl.proofs.analysis.Resolution.resolve.Given as goal

abbrev pub invariant-loop-place : goal.invariant-loop-place
invariant-loop-place l = record {
  resolving : IsResolving l.trail l.place l.self.marks (reverse l.self.hints.items);
  some : HasPending l.trail l.self.marks;
}

abbrev pub decreases-loop-place : goal.decreases-loop-place
decreases-loop-place l = l.place
