-- What the answer on a log says.
use Rattle.std.specs.Prelude.{◌≡◌, ℕ, ◌+◌, ◌-◌, ◌<◌, ◌≤◌, ◌⊎◌, Option, Some, None, List, length, take, slice_index_or}
use Rattle.heesch_cnf.specs.declared.literal.Lit.{Lit}
use Rattle.heesch_cnf.specs.declared.log.Line.{Line}
use Rattle.heesch_cnf.specs.declared.log.Log.{Log}
use Rattle.heesch_cnf.specs.Clauses.{IsClause, IsNew}
use Rattle.heesch_cnf.specs.Flat.{Clauses}
use Rattle.heesch_cnf.specs.Lines.{LineHolds, clause_of, clauses_of, FinalHolds, LinesHold, HoldsAtLine, Refutes, clauses_with}
use Rattle.heesch_rup.specs.declared.check.LogAnswer.{LogAnswer}
use Rattle.heesch_rup.specs.declared.check.LogAnswer.TheVariants.{Refuted, Open, BadLine}

-- line i, which counts from 0, is there and doesn't hold after the clauses that stand before it
abbrev pub FailsAtLine : ℕ → List (List Lit) → List Line → ℕ → Type 0
FailsAtLine vars clauses lines i =
    (i < length lines) × ((d : Line) → LineHolds vars (clauses_with clauses (take i lines)) (slice_index_or lines i d) → ⊥)

-- of the lines from one to before another, which count from 0, the first that doesn't hold, or that there is none
abbrev pub IsFirstFailing : ℕ → List (List Lit) → List Line → ℕ → ℕ → Option ℕ → Type 0
IsFirstFailing vars clauses lines from until None = (i : ℕ) → from ≤ i → i < until → HoldsAtLine vars clauses lines i
IsFirstFailing vars clauses lines from until (Some at) =
    (from ≤ at) × (at < until) × ((i : ℕ) → from ≤ i → i < at → HoldsAtLine vars clauses lines i) × FailsAtLine vars clauses lines at

-- these are clauses of the first lines, over the variables
abbrev pub AddsFirst : ℕ → List Line → Clauses → Type 0
AddsFirst vars lines added =
    (length added.clauses ≤ length lines) × (added ≡ record { vars = vars; clauses = clauses_of (take (length added.clauses) lines) })

-- line i, which counts from 0, isn't there or has no clause over the variables
abbrev pub IsFormless : ℕ → List Line → ℕ → Type 0
IsFormless vars lines i = i < length lines → (d : Line) → IsClause vars (clause_of (slice_index_or lines i d)) → ⊥

-- the final line is there and doesn't hold
abbrev pub FinalFails : List (List Lit) → Option (List ℕ) → Type 0
FinalFails clauses None = ⊥
FinalFails clauses (Some hints) = FinalHolds clauses hints → ⊥

-- the least line that doesn't hold, which counts from 1: those before it hold, and it doesn't; the final line counts after the others
pub record IsFirstBad (vars : ℕ) (clauses : List (List Lit)) (log : Log) (at : ℕ) : Type 0 where
  pub counted : 1 ≤ at
  pub before : (i : ℕ) → i + 1 < at → HoldsAtLine vars clauses log.lines i
  pub bad : FailsAtLine vars clauses log.lines (at - 1) ⊎ ((at ≡ length log.lines + 1) × FinalFails (clauses_with clauses log.lines) log.last)

-- the answer on a log: all its lines hold and the final line is there, or it isn't, or a line doesn't hold
abbrev pub IsLogAnswer : ℕ → List (List Lit) → Log → LogAnswer → Type 0
IsLogAnswer vars clauses log Refuted = Refutes vars clauses log
IsLogAnswer vars clauses log Open = LinesHold vars clauses log.lines × (log.last ≡ None)
IsLogAnswer vars clauses log (BadLine at) = IsFirstBad vars clauses log at

-- the lines from one to before another, which count from 0, are new
abbrev pub AreNewBetween : List (List Lit) → List Line → ℕ → ℕ → Type 0
AreNewBetween clauses lines from until =
    (i : ℕ) (d : Line) → from ≤ i → i < until → IsNew (clauses_with clauses (take i lines)) (clause_of (slice_index_or lines i d))
