-- What the search at one level answers.
use Rattle.std.specs.Prelude.{◌≡◌, ℕ, ◌≤◌, ◌^◌, Bool, Some, List, [], ◌∷◌, length, IsTrue, IsFalse}
use Rattle.heesch_grid.specs.declared.Cell.{Cell}
use Rattle.heesch_grid.specs.Geometry.{Geometry}
use Rattle.heesch_grid.specs.Corona.{AreCoronas, AreHoleFreeCoronas, HasCoronas, HasHoleFreeCoronas}
use Rattle.heesch_cert.specs.declared.entry.Layers.{Layers}
use Rattle.heesch_cert.specs.declared.proof.Proof.{Proof}
use Rattle.heesch_cert.specs.Proofs.{log_of, HasNoCut, RefutesCoronas, IsSpentOnCoronas, IsTooLarge}
use Rattle.heesch_cert.specs.Formulas.{IsCountedFormula}
use Rattle.heesch_cnf.specs.declared.literal.Lit.{Lit}
use Rattle.heesch_cnf.specs.declared.version.Version.{Version}
use Rattle.heesch_cnf.specs.Lines.{LinesAreNew, FinalHolds, clauses_with}
use Rattle.heesch_grid.specs.CoronaFormula.{Variable}
use Rattle.heesch_cert.specs.TrueEntry.{Spells}
use Rattle.heesch_cdcl.specs.Empty.{IsFirstEmpty}
use Rattle.heesch_levels.specs.declared.answer.LevelAnswer.{LevelAnswer}
use Rattle.heesch_levels.specs.declared.answer.LevelAnswer.TheVariants.{Coronas, Refuted, Spent, TooLarge}

-- the layers spell j coronas of the shape, hole-free where that is asked
pub record SpellsCoronas (g : Geometry) (shape : List Cell) (j : ℕ) (hole_free : Bool) (layers : Layers) : Type 0 where
  pub count : length layers.layers ≡ j
  pub tiles : List (List (List Cell))
  pub spelled : Spells g shape layers.layers tiles
  pub coronas : AreCoronas g shape tiles
  pub free : IsTrue hole_free → AreHoleFreeCoronas g shape tiles

-- no step of the proof, as a line, contains a clause of E(S, j), of the version here and below, or of a step before it
pub record HasNewSteps (version : Version) (g : Geometry) (shape : List Cell) (j : ℕ) (proof : Proof) : Type 0 where
  pub vars : List Variable
  pub count : ℕ
  pub clauses : List (List Lit)
  pub formula : IsCountedFormula version g shape j vars count clauses
  pub new_lines : LinesAreNew clauses (log_of vars proof).lines

-- the proof refutes E(S, j) by new steps, and so no j coronas exist: no hole-free ones, and none at all where it has no cut, as where holes are allowed
pub record RefutesLevel (version : Version) (g : Geometry) (shape : List Cell) (j : ℕ) (hole_free : Bool) (size : ℕ) (proof : Proof) : Type 0 where
  pub refutes : RefutesCoronas version g shape j size proof
  pub new_steps : HasNewSteps version g shape j proof
  pub none_free : ¬ HasHoleFreeCoronas g shape j
  pub none : HasNoCut proof → ¬ HasCoronas g shape j
  pub no_cut : IsFalse hole_free → HasNoCut proof

-- over E(S, j) and the steps no final line holds, whatever its hints; and the turns are at most 3 to the power of its variables
pub record LeavesOpen (version : Version) (g : Geometry) (shape : List Cell) (j turns : ℕ) (proof : Proof) : Type 0 where
  pub vars : List Variable
  pub count : ℕ
  pub clauses : List (List Lit)
  pub formula : IsCountedFormula version g shape j vars count clauses
  pub no_final : (hints : List ℕ) → ¬ FinalHolds (clauses_with clauses (log_of vars proof).lines) hints
  pub few : turns ≤ 3 ^ count

-- the proof is spent for this number of turns over E(S, j), which is left open, without cuts where holes are allowed
pub record IsSpentLevel (version : Version) (g : Geometry) (shape : List Cell) (j : ℕ) (hole_free : Bool) (turns size : ℕ) (proof : Proof) : Type 0 where
  pub is_spent : IsSpentOnCoronas version g shape j turns size proof
  pub open_still : LeavesOpen version g shape j turns proof
  pub no_cut : IsFalse hole_free → HasNoCut proof

-- what each answer says
abbrev pub IsLevelAnswer : Version → Geometry → List Cell → ℕ → Bool → ℕ → ℕ → LevelAnswer → Type 0
IsLevelAnswer version g shape j hole_free turns size (Coronas layers) = SpellsCoronas g shape j hole_free layers
IsLevelAnswer version g shape j hole_free turns size (Refuted proof) = RefutesLevel version g shape j hole_free size proof
IsLevelAnswer version g shape j hole_free turns size (Spent proof) = IsSpentLevel version g shape j hole_free turns size proof
IsLevelAnswer version g shape j hole_free turns size TooLarge = IsTooLarge version g shape j size

-- a refutation without a step, whose last line names the clause of this number
abbrev pub NamesEmptyClause : ℕ → LevelAnswer → Type 0
NamesEmptyClause n answer = answer ≡ Refuted (record { steps = []; last = Some (n ∷ []) })

-- where a clause of E(S, j) is empty, the answer names the first such clause at once
pub record NamesEmptyClauses (version : Version) (g : Geometry) (shape : List Cell) (j : ℕ) (answer : LevelAnswer) : Type 0 where
  pub vars : List Variable
  pub count : ℕ
  pub clauses : List (List Lit)
  pub formula : IsCountedFormula version g shape j vars count clauses
  pub named : (n : ℕ) → IsFirstEmpty clauses n → NamesEmptyClause n answer
