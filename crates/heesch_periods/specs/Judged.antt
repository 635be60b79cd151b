-- Logs as they are judged over any clauses.
use Rattle.std.specs.Prelude.{ℕ, List}
use Rattle.heesch_cnf.specs.declared.literal.Lit.{Lit}
use Rattle.heesch_cnf.specs.declared.log.Log.{Log}
use Rattle.heesch_cnf.specs.Meaning.{LearnsAlone}
use Rattle.heesch_judge.specs.Closed.{IsSpentOpen, RefutesAnew}

-- the log has Learn lines alone, and refutes the clauses by new lines
pub record RefutesAlone (vars : ℕ) (clauses : List (List Lit)) (log : Log) : Type 0 where
  pub alone : LearnsAlone log.lines
  pub refutes : RefutesAnew vars clauses log

-- the log has Learn lines alone, is spent for this many turns, and leaves the clauses open
pub record IsSpentAlone (vars : ℕ) (clauses : List (List Lit)) (turns : ℕ) (log : Log) : Type 0 where
  pub alone : LearnsAlone log.lines
  pub is_spent : IsSpentOpen vars clauses turns log
