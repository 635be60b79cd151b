use Rattle.std.proofs.Common.{◌≡◌, ◌++◌, map}
use Rattle.std.specs.Map.Iter.{deref_pair}
use Rattle.heesch_table.specs.Texts.{heesch_text}
use Rattle.heesch_table.proofs.heesch.HeeschCounts.append.Given as goal

abbrev pub invariant-loop-number : goal.invariant-loop-number
invariant-loop-number l = l.out.items ≡ l.fn.out.items ++ heesch_text (map deref_pair l.yielded)
