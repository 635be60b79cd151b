use Rattle.std.proofs.Common.{◌+◌, ◌≤◌, take}
use Rattle.std.specs.Prelude.{sum_by}
use Rattle.std.specs.List.{enumerate_from}
use Rattle.heesch_grid.specs.Clauses.{formula_size}
use Rattle.heesch_encode.specs.Families.{support_at}
use Rattle.heesch_numbers.proofs.bound.supports_fit.Given as goal

abbrev pub invariant-loop-i : goal.invariant-loop-i
invariant-loop-i g l = sum_by (λ x. formula_size (support_at g.G.Grid.geometry l.plan.universe.now.vars x)) (take l.i (enumerate_from 1 l.plan.universe.now.vars)) + l.left ≤ l.fn.room
