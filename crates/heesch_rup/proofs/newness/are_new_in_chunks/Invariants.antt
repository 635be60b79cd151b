use Rattle.std.proofs.Common.{◌*◌, length, min}
use Rattle.heesch_rup.specs.Answer.{AreNewBetween}
use Rattle.heesch_rup.proofs.newness.are_new_in_chunks.Given as goal

-- the lines of the chunks so far are new
abbrev pub invariant-loop-answer : goal.invariant-loop-answer
invariant-loop-answer g l = AreNewBetween (g.N.ClauseSource.listed l.formula).clauses (g.S.Steps.written l.steps).lines 0 (min (l.answer-index * 1024) (length l.added.clauses))
