-- What outer numbers and the answers on them mean, as statements. A contract that cites one of them claims it.
use Rattle.std.specs.Prelude.{◌≡◌, ℕ, ◌+◌, ◌<◌, ◌≤◌, ◌⊎◌, List, ⊤}
use Rattle.heesch_grid.specs.declared.Cell.{Cell}
use Rattle.heesch_grid.specs.Geometry.{Geometry, IsGrid}
use Rattle.heesch_grid.specs.Polyform.{IsPolyform}
use Rattle.heesch_grid.specs.Corona.{HasCoronas, HasHoleFreeCoronas, HasHeeschNumber, IsNonTiler}
use Rattle.heesch_cert.specs.declared.limits.Limits.{Limits}
use Rattle.heesch_cert.specs.declared.entry.Entry.{Entry}
use Rattle.heesch_cert.specs.declared.proof.Proof.{Proof}
use Rattle.heesch_cert.specs.Limits.{AreLimits}
use Rattle.heesch_cert.specs.TrueEntry.{IsTrueEntry, first_number}
use Rattle.heesch_outer.specs.declared.answer.OuterAnswer.{OuterAnswer}
use Rattle.heesch_outer.specs.declared.answer.OuterAnswer.TheVariants.{More, Same}
use Rattle.heesch_outer.specs.Coronas.{HasOuterCoronas, HasOuterNumber}
use Rattle.heesch_outer.specs.Proofs.{RefutesOuter}
use Rattle.heesch_outer.specs.Answer.{IsOuterAnswer}

-- hole-free coronas are outer ones, and outer ones are coronas with holes allowed
abbrev pub OuterCoronasLieBetween : Type 0
OuterCoronasLieBetween = (g : Geometry) (shape : List Cell) (k : ℕ) → (HasHoleFreeCoronas g shape k → HasOuterCoronas g shape k) × (HasOuterCoronas g shape k → HasCoronas g shape k)

-- where k outer coronas exist, so do fewer
abbrev pub FewerOuterCoronasExist : Type 0
FewerOuterCoronasExist = (g : Geometry) (shape : List Cell) (j k : ℕ) → j ≤ k → HasOuterCoronas g shape k → HasOuterCoronas g shape j

-- a shape has at most one outer number
abbrev pub OuterNumbersAreUnique : Type 0
OuterNumbersAreUnique = (g : Geometry) (shape : List Cell) (k j : ℕ) → HasOuterNumber g shape k → HasOuterNumber g shape j → k ≡ j

-- it is h + 1 where h + 1 outer coronas exist, h where they don't, and no other number
pub record IsNextNumber (g : Geometry) (shape : List Cell) (h : ℕ) : Type 0 where
  pub more : HasOuterCoronas g shape (h + 1) → HasOuterNumber g shape (h + 1)
  pub same : (¬ HasOuterCoronas g shape (h + 1)) → HasOuterNumber g shape h
  pub either : (k : ℕ) → HasOuterNumber g shape k → (k ≡ h) ⊎ (k ≡ h + 1)

-- so it is where h is the Heesch number
abbrev pub OuterNumbersAreNext : Type 0
OuterNumbersAreNext = (g : Geometry) (shape : List Cell) (h : ℕ) → HasHeeschNumber g shape h → IsNextNumber g shape h

-- the outer number of a non-tiler at m is below m
abbrev pub OuterNumbersLieBelow : Type 0
OuterNumbersLieBelow = (g : Geometry) (shape : List Cell) (k m : ℕ) → HasOuterNumber g shape k → IsNonTiler g shape m → k < m

-- a refuting proof that is outer for h leaves no h + 1 outer coronas
abbrev pub OuterRefutationsLeaveNone : Type 0
OuterRefutationsLeaveNone = (g : Geometry) (limits : Limits) (shape : List Cell) (h : ℕ) (proof : Proof) → IsGrid g → IsPolyform g shape → RefutesOuter g limits shape h proof → ¬ HasOuterCoronas g shape (h + 1)

-- what an answer says of a shape whose entry has number h: the outer number h + 1, or h; of the others, nothing
abbrev pub TellsNumber : Geometry → List Cell → ℕ → OuterAnswer → Type 0
TellsNumber g shape h (More layers) = HasOuterNumber g shape (h + 1)
TellsNumber g shape h (Same proof) = HasOuterNumber g shape h
TellsNumber g shape h answer = ⊤

-- an answer that is allowed for a true entry is right
abbrev pub OuterAnswersAreRight : Type 0
OuterAnswersAreRight = (g : Geometry) (limits : Limits) (entry : Entry) (answer : OuterAnswer) → IsGrid g → AreLimits limits → IsTrueEntry g limits entry → IsOuterAnswer g limits entry answer → TellsNumber g entry.cells (first_number entry.verdict) answer
