use Rattle.std.proofs.Common.{take}
use Rattle.heesch_verdict.specs.Domains.{AreSettled}
use Rattle.heesch_verdict.proofs.subject.Subject.settle_all.Given as goal

abbrev pub invariant-loop-triple : goal.invariant-loop-triple
invariant-loop-triple g l = AreSettled g.G.Grid.geometry l.self.shape.now l.self.limits.turns (take l.triple-index l.triples) l.settled
