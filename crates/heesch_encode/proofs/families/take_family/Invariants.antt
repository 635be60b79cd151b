use Rattle.std.proofs.Common.{List, length, take}
use Rattle.std.specs.Prelude.{flat_map}
use Rattle.std.specs.List.{enumerate_from}
use Rattle.heesch_grid.specs.declared.Cell.{Cell}
use Rattle.heesch_grid.specs.CoronaFormula.{GivesCellsAround}
use Rattle.heesch_encode.specs.Marks.{AreUnmarked}
use Rattle.heesch_encode.specs.Taking.{Takes}
use Rattle.heesch_encode.specs.Families.{clauses_at}
use Rattle.heesch_encode.proofs.families.take_family.Given as goal

abbrev pub invariant-loop-i : goal.invariant-loop-i
invariant-loop-i g l = record {
  unmarked : AreUnmarked (length l.plan.universe.now.vars) l.desk.marks.words.items;
  taken : (around : List Cell → List Cell) → GivesCellsAround g.G.Grid.geometry around → Takes l.fn.desk.collector l.desk.collector (flat_map (clauses_at l.family g.G.Grid.geometry around l.plan.shape.now l.plan.level l.plan.universe.now.vars) (take l.i (enumerate_from 1 l.plan.universe.now.vars)));
}
