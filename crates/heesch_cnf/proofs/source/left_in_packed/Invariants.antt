use Rattle.std.proofs.Common.{◌≡◌, take, option_to_list}
use Rattle.heesch_cnf.specs.Literals.{held}
use Rattle.heesch_cnf.specs.Clauses.{left_of}
use Rattle.heesch_cnf.proofs.source.left_in_packed.Given as goal

abbrev pub invariant-loop-packed : goal.invariant-loop-packed
invariant-loop-packed l = left_of (held l.values) (take l.packed-index l.clause) ≡ option_to_list l.left
