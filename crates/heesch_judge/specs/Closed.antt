-- Logs that refute or are spent, as they are judged over any clauses.
use Rattle.std.specs.Prelude.{ℕ, List}
use Rattle.heesch_cnf.specs.declared.literal.Lit.{Lit}
use Rattle.heesch_cnf.specs.declared.log.Log.{Log}
use Rattle.heesch_cnf.specs.Lines.{IsSpent, LinesAreNew, Refutes, clauses_with}
use Rattle.heesch_judge.specs.Propagation.{EndsOpen}

-- the log refutes the clauses, and each of its lines is new
pub record RefutesAnew (vars : ℕ) (clauses : List (List Lit)) (log : Log) : Type 0 where
  pub refutes : Refutes vars clauses log
  pub new_lines : LinesAreNew clauses log.lines

-- the log is spent for this many turns, and unit propagation over the clauses and its lines ends without a conflict
pub record IsSpentOpen (vars : ℕ) (clauses : List (List Lit)) (turns : ℕ) (log : Log) : Type 0 where
  pub is_spent : IsSpent vars clauses turns log
  pub open_still : EndsOpen (clauses_with clauses log.lines)
