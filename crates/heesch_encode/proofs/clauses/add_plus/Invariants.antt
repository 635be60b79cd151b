use Rattle.std.proofs.Common.{◌≡◌, ◌++◌, take}
use Rattle.heesch_encode.specs.Literals.{plus_all}
use Rattle.heesch_encode.proofs.clauses.add_plus.Given as goal

abbrev pub invariant-loop-var : goal.invariant-loop-var
invariant-loop-var l = l.clause.items ≡ l.fn.clause.items ++ plus_all (take l.var-index l.numbers)
