use Rattle.std.proofs.Common.{length}
use Rattle.heesch_chart.specs.Sizes.{HasValues}
use Rattle.heesch_chart.proofs.search.LevelSearch.run.Given as goal

abbrev pub invariant-loop : goal.invariant-loop
invariant-loop g l = HasValues (length l.question.universe.now.vars) l.self.holed
