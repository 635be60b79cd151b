use Rattle.std.proofs.Common.{List, ◌++◌, filter, not, take}
use Rattle.heesch_cnf.specs.declared.literal.Lit.{Lit}
use Rattle.heesch_cnf.specs.Literals.{held}
use Rattle.heesch_grid.specs.Cells.{meet}
use Rattle.heesch_encode.specs.Literals.{plus_all}
use Rattle.heesch_numbers.specs.Common.{tile_of}
use Rattle.heesch_numbers.specs.Seen.{IsSeen}
use Rattle.heesch_numbers.proofs.walks.left_with_all_apart.Given as goal

abbrev pub invariant-loop-var : goal.invariant-loop-var
invariant-loop-var g l = (seen : List Lit) → IsSeen (held l.values) seen l.fn.left → IsSeen (held l.values) (seen ++ plus_all (filter (λ n. not (meet (tile_of l.universe.vars n) l.tile)) (take l.var-index l.numbers))) l.now
