use Rattle.std.proofs.Common.{◌*◌, ℕ, ◌<◌, length}
use Rattle.heesch_cnf.specs.Lines.{HoldsAtLine}
use Rattle.heesch_rup.proofs.check.first_failing_in_chunks.Given as goal

-- the lines of the chunks so far hold
abbrev pub invariant-loop-answer : goal.invariant-loop-answer
invariant-loop-answer g l =
    (i : ℕ) → i < l.answer-index * 1024 → i < length l.added.clauses → HoldsAtLine (g.C.ClauseSource.listed l.formula).vars (g.C.ClauseSource.listed l.formula).clauses (g.S.Steps.written l.steps).lines i
