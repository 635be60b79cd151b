use Rattle.std.proofs.Common.{◌≡◌, ◌+◌, ◌++◌, List, take}
use Rattle.heesch_cert.specs.declared.entry.Entry.{Entry}
use Rattle.heesch_sample.specs.Samples.{AreCountsOf}
use Rattle.heesch_sample.proofs.samples.add_entries.Given as goal

-- the entries before this place are counted
abbrev pub invariant-loop-at : goal.invariant-loop-at
invariant-loop-at g l = record {
  tallied : (before : List Entry) → AreCountsOf g.G.Grid.geometry before l.fn.tally → AreCountsOf g.G.Grid.geometry (before ++ take l.at l.entries) l.tally;
  shapes : l.tally.shapes ≡ l.fn.tally.shapes + l.at;
}
