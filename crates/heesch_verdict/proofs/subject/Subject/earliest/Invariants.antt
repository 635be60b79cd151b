use Rattle.std.proofs.Common.{take, All}
use Rattle.heesch_verdict.specs.Earliest.{IsPassedOver}
use Rattle.heesch_verdict.proofs.subject.Subject.earliest.Given as goal

abbrev pub invariant-loop-triple : goal.invariant-loop-triple
invariant-loop-triple g l = All (IsPassedOver g.G.Grid.geometry l.self.shape.now l.self.limits.turns) (take l.triple-index l.left)
