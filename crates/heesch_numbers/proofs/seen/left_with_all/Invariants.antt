use Rattle.std.proofs.Common.{List, ◌++◌, take}
use Rattle.heesch_cnf.specs.declared.literal.Lit.{Lit}
use Rattle.heesch_cnf.specs.Literals.{held}
use Rattle.heesch_encode.specs.Literals.{plus_all}
use Rattle.heesch_numbers.specs.Seen.{IsSeen}
use Rattle.heesch_numbers.proofs.seen.left_with_all.Given as goal

abbrev pub invariant-loop-var : goal.invariant-loop-var
invariant-loop-var l = (seen : List Lit) → IsSeen (held l.values) seen l.fn.left → IsSeen (held l.values) (seen ++ plus_all (take l.var-index l.numbers)) l.now
