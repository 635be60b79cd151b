use Rattle.std.proofs.Common.{true}
use Rattle.heesch_levels.specs.Answer.{SpellsCoronas}
use Rattle.heesch_verdict.proofs.subject.Subject.hole_free.Given as goal

abbrev pub invariant-loop-h : goal.invariant-loop-h
invariant-loop-h g l = SpellsCoronas g.G.Grid.geometry l.self.shape.now l.h true l.free
