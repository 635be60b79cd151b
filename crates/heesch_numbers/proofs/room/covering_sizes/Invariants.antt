use Rattle.std.proofs.Common.{◌≡◌, List, take}
use Rattle.std.specs.Prelude.{min, sum_by}
use Rattle.std.specs.List.{enumerate_from}
use Rattle.heesch_grid.specs.declared.Cell.{Cell}
use Rattle.heesch_grid.specs.Clauses.{formula_size}
use Rattle.heesch_grid.specs.CoronaFormula.{GivesCellsAround}
use Rattle.heesch_encode.specs.Families.{covering_at}
use Rattle.heesch_numbers.proofs.room.covering_sizes.Given as goal

abbrev pub invariant-loop-i : goal.invariant-loop-i
invariant-loop-i g l = (around : List Cell → List Cell) → GivesCellsAround g.G.Grid.geometry around → l.size ≡ min (sum_by (λ x. formula_size (covering_at around l.plan.shape.now l.plan.level l.plan.universe.now.vars x)) (take l.i (enumerate_from 1 l.plan.universe.now.vars))) l.most
