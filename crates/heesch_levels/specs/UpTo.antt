-- What a search answers that forbids holes at the levels 1 to k alone: coronas, or a proof with cuts of these levels.
use Rattle.std.specs.Prelude.{◌≡◌, ℕ, ◌≤◌, List, [], ◌∷◌, length, take, All, ⊤}
use Rattle.heesch_grid.specs.declared.Cell.{Cell}
use Rattle.heesch_grid.specs.Geometry.{Geometry}
use Rattle.heesch_grid.specs.Corona.{AreCoronas, StaysHoleFree}
use Rattle.heesch_cnf.specs.declared.version.Version.{Version}
use Rattle.heesch_cert.specs.declared.entry.Layers.{Layers}
use Rattle.heesch_cert.specs.declared.proof.Proof.{Proof}
use Rattle.heesch_cert.specs.declared.proof.Step.{Step}
use Rattle.heesch_cert.specs.declared.proof.Step.TheVariants.{Learn, Cut}
use Rattle.heesch_cert.specs.Proofs.{RefutesCoronas, IsSpentOnCoronas, IsTooLarge}
use Rattle.heesch_cert.specs.TrueEntry.{Spells}
use Rattle.heesch_levels.specs.declared.answer.LevelAnswer.{LevelAnswer}
use Rattle.heesch_levels.specs.declared.answer.LevelAnswer.TheVariants.{Coronas, Refuted, Spent, TooLarge}
use Rattle.heesch_levels.specs.Answer.{HasNewSteps, LeavesOpen}

-- the step is no cut of a level above k
abbrev pub IsStepUpTo : ℕ → Step → Type 0
IsStepUpTo k (Learn clause hints) = ⊤
IsStepUpTo k (Cut cut) = cut.level ≤ k

-- each cut of the proof has level at most k
abbrev pub HasCutsUpTo : ℕ → Proof → Type 0
HasCutsUpTo k proof = All (IsStepUpTo k) proof.steps

-- the layers spell j coronas of the shape, whose patches of the levels 1 to k are hole-free
pub record SpellsUpTo (g : Geometry) (shape : List Cell) (j k : ℕ) (layers : Layers) : Type 0 where
  pub count : length layers.layers ≡ j
  pub tiles : List (List (List Cell))
  pub spelled : Spells g shape layers.layers tiles
  pub coronas : AreCoronas g shape tiles
  pub free : StaysHoleFree g (shape ∷ []) (take k tiles)

-- the proof refutes E(S, j) by new steps, and has cuts of the levels 1 to k alone
pub record RefutesUpTo (version : Version) (g : Geometry) (shape : List Cell) (j k size : ℕ) (proof : Proof) : Type 0 where
  pub refutes : RefutesCoronas version g shape j size proof
  pub new_steps : HasNewSteps version g shape j proof
  pub cuts : HasCutsUpTo k proof

-- the proof is spent for this number of turns over E(S, j), which is left open, and has cuts of the levels 1 to k alone
pub record IsSpentUpTo (version : Version) (g : Geometry) (shape : List Cell) (j k turns size : ℕ) (proof : Proof) : Type 0 where
  pub is_spent : IsSpentOnCoronas version g shape j turns size proof
  pub open_still : LeavesOpen version g shape j turns proof
  pub cuts : HasCutsUpTo k proof

-- what each answer says where holes are forbidden at the levels 1 to k
abbrev pub IsAnswerUpTo : Version → Geometry → List Cell → ℕ → ℕ → ℕ → ℕ → LevelAnswer → Type 0
IsAnswerUpTo version g shape j k turns size (Coronas layers) = SpellsUpTo g shape j k layers
IsAnswerUpTo version g shape j k turns size (Refuted proof) = RefutesUpTo version g shape j k size proof
IsAnswerUpTo version g shape j k turns size (Spent proof) = IsSpentUpTo version g shape j k turns size proof
IsAnswerUpTo version g shape j k turns size TooLarge = IsTooLarge version g shape j size
