-- What an answer on a log says of refutations by new lines.
use Rattle.std.proofs.Common.{◌≡◌, ℕ, List, false}
use Rattle.std.specs.Prelude.{◌↔◌, IsTrue, None}
use Rattle.heesch_cnf.specs.declared.literal.Lit.{Lit}
use Rattle.heesch_cnf.specs.declared.log.Log.{Log}
use Rattle.heesch_rup.specs.Answer.{IsFirstBad}
use Rattle.heesch_judge.specs.Closed.{RefutesAnew}
use Rattle.heesch_logs.proofs.Equal.{refused}
use Rattle.heesch_logs.proofs.Refuted as plain

module _ (vars : ℕ) (clauses : List (List Lit)) (log : Log) where
  -- a log without a final line refutes nothing
  pub open_not_refuted : log.last ≡ None → IsTrue false ↔ RefutesAnew vars clauses log
  open_not_refuted e = refused (λ r. plain.open_not_refuted vars clauses log e r.refutes)

  -- nor does one with a bad line
  pub bad_not_refuted : (at : ℕ) → IsFirstBad vars clauses log at → IsTrue false ↔ RefutesAnew vars clauses log
  bad_not_refuted at b = refused (λ r. plain.bad_not_refuted vars clauses log at b r.refutes)
