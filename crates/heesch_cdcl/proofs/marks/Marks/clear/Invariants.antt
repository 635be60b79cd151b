use Rattle.std.proofs.Common.{◌≡◌, length}
use Rattle.heesch_cdcl.specs.Marking.{AreListed}
use Rattle.heesch_cdcl.proofs.marks.Marks.clear.Given as goal

abbrev pub invariant-loop-var : goal.invariant-loop-var
invariant-loop-var l = record {
  listed : AreListed l.self-inside.seen.items l.self-inside.here.items l.self-inside.touched.items;
  seen_room : length l.self-inside.seen.items ≡ length l.fn.self.seen;
  here_room : length l.self-inside.here.items ≡ length l.fn.self.here;
}

abbrev pub decreases-loop-var : goal.decreases-loop-var
decreases-loop-var l = length l.self-inside.touched.items
