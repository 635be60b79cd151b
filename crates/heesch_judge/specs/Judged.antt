-- What the judge says of answers, and of proofs over the second corona formula of a source.
use Rattle.std.specs.Prelude.{◌≡◌, ℕ, List}
use Rattle.heesch_grid.specs.declared.Cell.{Cell}
use Rattle.heesch_grid.specs.Geometry.{Geometry}
use Rattle.heesch_cnf.specs.declared.version.Version.TheVariants.{Two}
use Rattle.heesch_cdcl.specs.Empty.{IsFirstEmpty}
use Rattle.heesch_cert.specs.declared.entry.Layers.{Layers}
use Rattle.heesch_cert.specs.declared.proof.Proof.{Proof}
use Rattle.heesch_cert.specs.Formulas.{IsCountedFormula}
use Rattle.heesch_cert.specs.Proofs.{HasNoCut, log_of}
use Rattle.heesch_place.specs.Universes.{IsUniverseOf}
use Rattle.heesch_levels.specs.declared.answer.LevelAnswer.{LevelAnswer}
use Rattle.heesch_levels.specs.declared.answer.LevelAnswer.TheVariants.{Coronas, Refuted, Spent, TooLarge}
use Rattle.heesch_levels.specs.declared.answer.WallAnswer.{WallAnswer}
use Rattle.heesch_levels.specs.declared.answer.WallAnswer.TheVariants.{Coronas as WallCoronas, Refuted as WallRefuted, Holed as WallHoled, Spent as WallSpent, TooLarge as WallTooLarge}
use Rattle.heesch_levels.specs.Answer.{NamesEmptyClause}
use Rattle.heesch_levels.specs.UpTo.{SpellsUpTo}
use Rattle.heesch_numbers.specs.Sourced.{Sourced}
use Rattle.heesch_logs.specs.Admitted.{IsAdmitted}
use Rattle.heesch_judge.specs.Closed.{IsSpentOpen, RefutesAnew}
use Rattle.heesch_logs.specs.Near.{AreNearLayers}

-- the source is that of the second corona formula of the shape, at the level of its universe
pub record IsSourceOf (g : Geometry) (shape : List Cell) (s : Sourced) : Type 0 where
  pub universe : IsUniverseOf g s.universe
  pub shape_is : s.universe.shape ≡ shape
  pub formula : IsCountedFormula Two g shape s.universe.level s.universe.vars s.formula.vars s.formula.clauses

-- the proof has admitted cuts of levels up to k, and refutes the formula by new lines
pub record IsRefutation (g : Geometry) (s : Sourced) (k : ℕ) (proof : Proof) : Type 0 where
  pub admitted : IsAdmitted g s.universe k proof
  pub refutes : RefutesAnew s.formula.vars s.formula.clauses (log_of s.universe.vars proof)

-- the proof is such a refutation, and names the first empty clause at once, where one is empty
pub record IsRefutationAtOnce (g : Geometry) (s : Sourced) (k : ℕ) (proof : Proof) : Type 0 where
  pub refutation : IsRefutation g s k proof
  pub at_once : (n : ℕ) → IsFirstEmpty s.formula.clauses n → NamesEmptyClause n (Refuted proof)

-- the proof has admitted cuts of levels up to k, and is spent over the formula, which it leaves open
pub record IsSpentProof (g : Geometry) (s : Sourced) (k turns : ℕ) (proof : Proof) : Type 0 where
  pub admitted : IsAdmitted g s.universe k proof
  pub is_spent : IsSpentOpen s.formula.vars s.formula.clauses turns (log_of s.universe.vars proof)

-- the layers lie near 0 and spell coronas of the shape and the level of the source, hole-free ones up to level k
abbrev pub AreJudgedLayers : Geometry → List Cell → Sourced → ℕ → Layers → Type 0
AreJudgedLayers g shape s k layers = AreNearLayers layers.layers × SpellsUpTo g shape s.universe.level k layers

-- the answer on the level of the source is what it claims to be, where holes are forbidden at the levels 1 to k; too large no source is
abbrev pub IsJudgedLevel : Geometry → List Cell → Sourced → ℕ → ℕ → LevelAnswer → Type 0
IsJudgedLevel g shape s k turns (Coronas layers) = AreJudgedLayers g shape s k layers
IsJudgedLevel g shape s k turns (Refuted proof) = IsRefutationAtOnce g s k proof
IsJudgedLevel g shape s k turns (Spent proof) = IsSpentProof g s k turns proof
IsJudgedLevel g shape s k turns TooLarge = ⊥

-- the answer on the wall is what it claims to be: beside a refutation that has cuts stand coronas with holes allowed
abbrev pub IsJudgedWall : Geometry → List Cell → Sourced → ℕ → ℕ → WallAnswer → Type 0
IsJudgedWall g shape s k turns (WallCoronas layers) = AreJudgedLayers g shape s k layers
IsJudgedWall g shape s k turns (WallRefuted proof) = HasNoCut proof × IsRefutationAtOnce g s k proof
IsJudgedWall g shape s k turns (WallHoled proof layers) = AreJudgedLayers g shape s 0 layers × IsRefutationAtOnce g s k proof
IsJudgedWall g shape s k turns (WallSpent proof) = IsSpentProof g s k turns proof
IsJudgedWall g shape s k turns WallTooLarge = ⊥
