-- How a search ended with its proof.
use Rattle.std.specs.Prelude.{◌≡◌, ℕ, List, Some, None}
use Rattle.heesch_grid.specs.declared.Cell.{Cell}
use Rattle.heesch_grid.specs.Geometry.{Geometry}
use Rattle.heesch_cnf.specs.declared.literal.Lit.{Lit}
use Rattle.heesch_cnf.specs.declared.log.Log.{Log}
use Rattle.heesch_cnf.specs.Lines.{Refutes, IsSpent}
use Rattle.heesch_cert.specs.declared.limits.Limits.{Limits}
use Rattle.heesch_cert.specs.declared.proof.Proof.{Proof}
use Rattle.heesch_cert.specs.declared.entry.Bare.{Bare}
use Rattle.heesch_cert.specs.declared.entry.Bare.TheVariants.{Refuted as BareRefuted, Spent as BareSpent}
use Rattle.heesch_cert.specs.Proofs.{RefutesCoronas, IsSpentOnCoronas}
use Rattle.heesch_audit.specs.declared.proof_end.ProofEnd.{ProofEnd}
use Rattle.heesch_audit.specs.declared.proof_end.ProofEnd.TheVariants.{Refuted, Spent}

-- the log refutes the clauses, or is spent for so many turns over them
abbrev pub LogEnds : ProofEnd → (vars : ℕ) → List (List Lit) → (turns : ℕ) → Log → Type 0
LogEnds Refuted vars clauses turns log = Refutes vars clauses log
LogEnds Spent vars clauses turns log = IsSpent vars clauses turns log

-- a log with a final line refutes, if anything, and one without is spent
abbrev pub IsEndOf : Log → ProofEnd → Type 0
IsEndOf log Refuted = (hints : List ℕ) × (log.last ≡ Some hints)
IsEndOf log Spent = log.last ≡ None

-- the search with holes allowed ended so with the proof
abbrev pub BareEnds : ProofEnd → Proof → Bare → Type 0
BareEnds Refuted proof bare = bare ≡ BareRefuted proof
BareEnds Spent proof bare = bare ≡ BareSpent proof

-- the proof refutes E(S, j) under the limits, or is spent over it for their turns
abbrev pub EndsCoronas : ProofEnd → Geometry → Limits → List Cell → ℕ → Proof → Type 0
EndsCoronas Refuted g limits shape j proof = RefutesCoronas limits.version g shape j limits.size proof
EndsCoronas Spent g limits shape j proof = IsSpentOnCoronas limits.version g shape j limits.turns limits.size proof
