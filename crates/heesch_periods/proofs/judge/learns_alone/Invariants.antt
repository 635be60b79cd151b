use Rattle.std.proofs.Common.{ℕ, ◌<◌, get_or}
use Rattle.heesch_cnf.specs.declared.log.Line.{Line}
use Rattle.heesch_cnf.specs.Meaning.{IsLearn}
use Rattle.heesch_periods.proofs.judge.learns_alone.Given as goal

abbrev pub invariant-loop-line : goal.invariant-loop-line
invariant-loop-line l = (k : ℕ) (d : Line) → k < l.line-index → IsLearn (get_or l.line-items k d)
