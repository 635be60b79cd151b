-- Proofs that are outer for a number h: over E(S, h + 1), with cuts of the levels 1 to h alone.
use Rattle.std.specs.Prelude.{ℕ, ◌+◌, List, ⊤}
use Rattle.heesch_grid.specs.declared.Cell.{Cell}
use Rattle.heesch_grid.specs.Geometry.{Geometry}
use Rattle.heesch_cert.specs.declared.limits.Limits.{Limits}
use Rattle.heesch_cert.specs.declared.proof.Proof.{Proof}
use Rattle.heesch_levels.specs.Answer.{LeavesOpen}
use Rattle.heesch_levels.specs.UpTo.{HasCutsUpTo}
use Rattle.heesch_audit.specs.Ends.{EndsCoronas}
use Rattle.heesch_audit.specs.declared.proof_end.ProofEnd.{ProofEnd}
use Rattle.heesch_audit.specs.declared.proof_end.ProofEnd.TheVariants.{Refuted, Spent}
use Rattle.heesch_outer.specs.declared.answer.OuterAnswer.{OuterAnswer}
use Rattle.heesch_outer.specs.declared.answer.OuterAnswer.TheVariants as answers

-- the proof is outer for h under these limits, and refutes E(S, h + 1) or is spent for their turns over it
pub record EndsOuter (end : ProofEnd) (g : Geometry) (limits : Limits) (shape : List Cell) (h : ℕ) (proof : Proof) : Type 0 where
  pub ends : EndsCoronas end g limits shape (h + 1) proof
  pub outer_cuts : HasCutsUpTo h proof

-- the proof is outer for h, and refutes E(S, h + 1)
abbrev pub RefutesOuter : Geometry → Limits → List Cell → ℕ → Proof → Type 0
RefutesOuter g limits shape h proof = EndsOuter Refuted g limits shape h proof

-- the proof is outer for h, and spent over E(S, h + 1)
abbrev pub IsSpentOuter : Geometry → Limits → List Cell → ℕ → Proof → Type 0
IsSpentOuter g limits shape h proof = EndsOuter Spent g limits shape h proof

-- the proof of an answer that the turns were spent on leaves E(S, h + 1) open: over its clauses and the proof's steps no final line holds
abbrev pub LeavesOuterOpen : Geometry → Limits → List Cell → ℕ → OuterAnswer → Type 0
LeavesOuterOpen g limits shape h (answers.Spent proof) = LeavesOpen limits.version g shape (h + 1) limits.turns proof
LeavesOuterOpen g limits shape h answer = ⊤
