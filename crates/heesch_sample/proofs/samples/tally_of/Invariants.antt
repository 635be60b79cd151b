use Rattle.std.proofs.Common.{◌≡◌, ◌≤◌, ◌-◌, length, take}
use Rattle.heesch_sample.specs.Samples.{HaveCounts}
use Rattle.heesch_sample.proofs.samples.tally_of.Given as goal

-- the entries of the shapes before this place are counted
abbrev pub invariant-loop-from : goal.invariant-loop-from
invariant-loop-from g l = record {
  within : l.from ≤ length l.shapes;
  counted : HaveCounts g.G.Grid.geometry l.fn.limits (take l.from l.shapes) l.tally;
  shapes : l.tally.shapes ≡ l.from;
}

abbrev pub decreases-loop-from : goal.decreases-loop-from
decreases-loop-from g l = l.count - l.from
