use Rattle.std.proofs.Common.{◌≡◌, map, take}
use Rattle.heesch_made.specs.Literals.{numbered_literal}
use Rattle.heesch_made.proofs.literals.lits.Given as goal

abbrev pub invariant-loop-number : goal.invariant-loop-number
invariant-loop-number l = l.literals ≡ map numbered_literal (take l.number-index l.numbers)
