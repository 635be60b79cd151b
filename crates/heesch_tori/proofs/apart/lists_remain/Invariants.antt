use Rattle.std.proofs.Common.{[], ◌∷◌, take}
use Rattle.std.specs.Prelude.{flat_map}
use Rattle.heesch_cnf.specs.Literals.{held}
use Rattle.heesch_encode.specs.Literals.{plus_all}
use Rattle.heesch_numbers.specs.Common.{AllRemain}
use Rattle.heesch_tori.proofs.apart.lists_remain.Given as goal

abbrev pub invariant-loop-list : goal.invariant-loop-list
invariant-loop-list l = AllRemain (held l.values) (flat_map (λ list. plus_all list ∷ []) (take l.list-index l.lists))
