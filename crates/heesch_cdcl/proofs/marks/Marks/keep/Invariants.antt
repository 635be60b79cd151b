use Rattle.std.proofs.Common.{◌≡◌, filter, take}
use Rattle.heesch_cdcl.specs.Marking.{marked}
use Rattle.heesch_cdcl.proofs.marks.Marks.keep.Given as goal

abbrev pub invariant-loop-var : goal.invariant-loop-var
invariant-loop-var l = l.kept.items ≡ filter (marked l.self-inside.seen.items) (take l.var-index l.self-inside.touched.items)
