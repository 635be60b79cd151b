use Rattle.std.proofs.Common.{take, All}
use Rattle.heesch_verdict.specs.Earliest.{HasNoCover}
use Rattle.heesch_verdict.proofs.Firsts.{AreTried}
use Rattle.heesch_verdict.proofs.subject.Subject.first_cover.Given as goal

abbrev pub invariant-loop-triple : goal.invariant-loop-triple
invariant-loop-triple g l = AreTried g.G.Grid.geometry l.self.shape.now 1000000 (take l.triple-index l.triples) l.left.items × All (HasNoCover g.G.Grid.geometry l.self.shape.now) l.uncovered.items
