use Rattle.std.proofs.Common.{◌≡◌, false, take}
use Rattle.std.specs.List.{list_any}
use Rattle.heesch_cnf.specs.Clauses.{assignment_of}
use Rattle.heesch_cuts.proofs.border.first_chosen.Given as goal

abbrev pub invariant-loop-n : goal.invariant-loop-n
invariant-loop-n l = list_any (assignment_of l.model) (take l.n-index l.numbers) ≡ false
