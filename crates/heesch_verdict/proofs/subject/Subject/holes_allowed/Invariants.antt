use Rattle.std.proofs.Common.{◌-◌, false}
use Rattle.heesch_levels.specs.Answer.{SpellsCoronas}
use Rattle.heesch_verdict.proofs.subject.Subject.holes_allowed.Given as goal

abbrev pub invariant-loop-m : goal.invariant-loop-m
invariant-loop-m g l = SpellsCoronas g.G.Grid.geometry l.self.shape.now (l.m - 1) false l.wider
