use Rattle.std.proofs.Common.{◌≡◌, ℕ, ◌-◌, length}
use Rattle.heesch_cdcl.specs.Empty.{IsFirstEmpty}
use Rattle.heesch_levels.specs.Searching.{GoesOn}
use Rattle.heesch_levels.proofs.searching.Search.run.Given as goal

abbrev pub decreases-loop-ending : goal.decreases-loop-ending
decreases-loop-ending g l = l.self.turns - length l.self.solver.log.lines

abbrev pub invariant-loop-ending : goal.invariant-loop-ending
invariant-loop-ending g l = record {
  on : GoesOn g.G.Grid.geometry l.asked.universe l.asked.free_levels l.initial.self l.self;
  at_once : (n : ℕ) → IsFirstEmpty l.initial.self.solver.clauses n → l.self.solver.log.lines ≡ l.initial.self.solver.log.lines;
}
