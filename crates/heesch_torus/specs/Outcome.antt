-- What the solver finds of a formula.
use Rattle.std.specs.Prelude.{◌≡◌, ℕ, List, length}
use Rattle.heesch_cnf.specs.declared.literal.Lit.{Lit}
use Rattle.heesch_cnf.specs.Clauses.{Satisfies}
use Rattle.heesch_cnf.specs.Lines.{clauses_with, FinalHolds, LinesAreNew, Refutes, IsSpent}
use Rattle.heesch_cnf.specs.Meaning.{LearnsAlone}
use Rattle.heesch_cnf.specs.Clauses.{assignment_of}
use Rattle.heesch_torus.specs.declared.outcome.Outcome.{Outcome}
use Rattle.heesch_torus.specs.declared.outcome.Outcome.TheVariants.{Model, Refuted, Spent}

-- a model with a value for each variable; or a log of Learn lines, each of them new, that refutes; or one that is spent for these turns, over which no final line holds
abbrev pub IsOutcome : ℕ → List (List Lit) → ℕ → Outcome → Type 0
IsOutcome vars clauses turns (Model values) = (length values ≡ vars) × Satisfies (assignment_of values) clauses
IsOutcome vars clauses turns (Refuted log) = LearnsAlone log.lines × Refutes vars clauses log × LinesAreNew clauses log.lines
IsOutcome vars clauses turns (Spent log) = LearnsAlone log.lines × IsSpent vars clauses turns log × ((hints : List ℕ) → ¬ FinalHolds (clauses_with clauses log.lines) hints)
