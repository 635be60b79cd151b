use Rattle.std.proofs.Common.{List, ℕ, take}
use Rattle.std.specs.Prelude.{Contains}
use Rattle.heesch_cnf.specs.Literals.{held}
use Rattle.heesch_cert.specs.Literals.{literals}
use Rattle.heesch_grid.specs.declared.Cell.{Cell}
use Rattle.heesch_grid.specs.CoronaFormula.{Variable, GivesCellsAround, IsNumbered}
use Rattle.heesch_numbers.specs.Common.{VariableRemains}
use Rattle.heesch_numbers.proofs.remain.all_negated_remain.Given as goal

abbrev pub invariant-loop-lit : goal.invariant-loop-lit
invariant-loop-lit g l = (around : List Cell → List Cell) → GivesCellsAround g.G.Grid.geometry around → (n : ℕ) (x : Variable) → IsNumbered l.plan.universe.now.vars n x → Contains (take l.lit-index l.clause) (literals.minus n)
    → VariableRemains (held l.values) g.G.Grid.geometry around l.plan.universe.now (n, x)
