use Rattle.std.proofs.Common.{◌≡◌, ◌≤◌, length}
use Rattle.heesch_io.specs.Pieces.{AreEnds}
use Rattle.heesch_cdcl.proofs.covers.Covers.of.Given as goal

abbrev pub invariant-loop-guard : goal.invariant-loop-guard
invariant-loop-guard l = record {
  count : length l.ends.items ≡ l.guard;
  cut : AreEnds 0 l.ends.items l.end;
  within : l.end ≤ length l.covers.items;
}
