use Rattle.std.proofs.Common.{◌≡◌, false, take}
use Rattle.std.specs.List.{list_any}
use Rattle.heesch_cuts.specs.Marks.{is_marked}
use Rattle.heesch_cuts.proofs.checking.is_any_marked.Given as goal

abbrev pub invariant-loop-n : goal.invariant-loop-n
invariant-loop-n l = list_any (is_marked l.marks) (take l.n-index l.numbers) ≡ false
