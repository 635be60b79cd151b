use Rattle.heesch_cuts.specs.Parts.{IsSpread, work_left}
use Rattle.heesch_cuts.proofs.parts.Spread.reach_all.Given as goal

abbrev pub invariant-loop-at : goal.invariant-loop-at
invariant-loop-at g l = IsSpread g.G.Grid.geometry l.hole l.self.reached.items l.self.todo.items

abbrev pub decreases-loop-at : goal.decreases-loop-at
decreases-loop-at g l = work_left l.self.reached.items l.self.todo.items
