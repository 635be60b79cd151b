-- What an answer on a log says of refutations.
use Rattle.std.proofs.Common.{◌≡◌, ℕ, ◌+◌, ◌-◌, List, [], length, inl, inr}
use Rattle.std.specs.Prelude.{Option, Some, None}
use Rattle.heesch_cnf.specs.declared.literal.Lit.{Lit}
use Rattle.heesch_cnf.specs.declared.log.Line.TheVariants.{Given}
use Rattle.heesch_cnf.specs.declared.log.Log.{Log}
use Rattle.heesch_cnf.specs.Lines.{HasFinal, LinesHold, Refutes, clauses_with}
use Rattle.heesch_rup.specs.Answer.{FailsAtLine, FinalFails, IsFirstBad}

final_there : (clauses : List (List Lit)) (last : Option (List ℕ)) → HasFinal clauses last → ¬ (last ≡ None)
final_there clauses None h e = h
final_there clauses (Some hints) h e = cc

final_fails : (clauses : List (List Lit)) (last : Option (List ℕ)) → FinalFails clauses last → ¬ HasFinal clauses last
final_fails clauses None f h = f
final_fails clauses (Some hints) f h = f h

module _ (vars : ℕ) (clauses : List (List Lit)) (log : Log) where
  -- a log without a final line refutes nothing
  pub open_not_refuted : log.last ≡ None → ¬ Refutes vars clauses log
  open_not_refuted e r = final_there (clauses_with clauses log.lines) log.last r.final e

  bad_line : (at : ℕ) → IsFirstBad vars clauses log at → LinesHold vars clauses log.lines → (at ≡ length log.lines + 1) × FinalFails (clauses_with clauses log.lines) log.last
  bad_line at b lines = elim b.bad [ inl f ↦ absurd (fails f) | inr f ↦ f ]
    where
      fails : FailsAtLine vars clauses log.lines (at - 1) → ⊥
      fails f = f.1 (Given []) (lines (at - 1) f.0 (Given []))

  -- nor does one with a bad line
  pub bad_not_refuted : (at : ℕ) → IsFirstBad vars clauses log at → ¬ Refutes vars clauses log
  bad_not_refuted at b r = final_fails (clauses_with clauses log.lines) log.last (bad_line at b r.lines).1 r.final
