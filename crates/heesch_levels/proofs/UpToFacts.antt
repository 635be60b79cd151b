-- Holes forbidden at all levels or at none, as holes forbidden at the levels up to one.
use Rattle.std.proofs.Common.{◌≡◌, ap, subst, ℕ, ◌≤◌, List, [], ◌∷◌, length, Bool, All, arith}
use Rattle.std.specs.Prelude.{IsTrue, IsFalse, if◌then◌else◌}
use Rattle.std.specs.List.{AllZip}
use Rattle.std.proofs.lemmas.List.{take_all}
use Rattle.std.proofs.lemmas.Slice.Zip.{AllZip-long}
use Rattle.heesch_grid.specs.declared.Cell.{Cell}
use Rattle.heesch_grid.specs.declared.isometries.Iso.{Iso}
use Rattle.heesch_grid.specs.Geometry.{Geometry, IsGrid}
use Rattle.heesch_grid.specs.Corona.{StaysHoleFree}
use Rattle.heesch_grid.specs.CoronaFormula.{Variable}
use Rattle.heesch_grid.specs.Placement.{IsLeastIsometry}
use Rattle.heesch_grid.specs.Polyform.{IsPolyform}
use Rattle.heesch_cnf.specs.declared.version.Version.{Version}
use Rattle.heesch_cert.specs.declared.entry.Layers.{Layers}
use Rattle.heesch_cert.specs.declared.proof.Proof.{Proof}
use Rattle.heesch_cert.specs.declared.proof.Step.{Step}
use Rattle.heesch_cert.specs.declared.proof.Step.TheVariants.{Learn, Cut}
use Rattle.heesch_cert.specs.Proofs.{HasNoCut, IsLawfulStep, IsLearnStep}
use Rattle.heesch_cert.proofs.CutSound.{refuted_means_none}
use Rattle.heesch_levels.specs.declared.answer.LevelAnswer.{LevelAnswer}
use Rattle.heesch_levels.specs.declared.answer.LevelAnswer.TheVariants.{Coronas, Refuted, Spent, TooLarge}
use Rattle.heesch_levels.specs.Answer.{IsLevelAnswer, SpellsCoronas}
use Rattle.heesch_levels.specs.UpTo.{HasCutsUpTo, IsAnswerUpTo, IsStepUpTo, SpellsUpTo}

-- a lawful cut has a level from 1
learnt_at_none : (g : Geometry) (shape : List Cell) (j : ℕ) (vars : List Variable) (step : Step) → IsLawfulStep g shape j vars step → IsStepUpTo 0 step → IsLearnStep step
learnt_at_none g shape j vars (Learn clause hints) lawful low = tt
learnt_at_none g shape j vars (Cut cut) lawful low = let from = lawful.level_from in absurd (omega (arith, from, low))

no_cut_at_none : (g : Geometry) (shape : List Cell) (j : ℕ) (vars : List Variable) (proof : Proof) → All (IsLawfulStep g shape j vars) proof.steps → HasCutsUpTo 0 proof → HasNoCut proof
no_cut_at_none g shape j vars proof lawful low = λ i d below. learnt_at_none g shape j vars _ (lawful i d below) (low i d below)

module _ (g : Geometry) (shape : List Cell) (j : ℕ) (hole_free : Bool) where
  abbrev levels : ℕ
  levels = if hole_free then j else 0

  at_all : IsTrue hole_free → levels ≡ j
  at_all t = ap (λ b. if b then j else 0) t

  at_none : IsFalse hole_free → levels ≡ 0
  at_none f = ap (λ b. if b then j else 0) f

  pub spells_level : (layers : Layers) → SpellsUpTo g shape j levels layers → SpellsCoronas g shape j hole_free layers
  spells_level layers s =
      let long : length s.tiles ≡ length layers.layers = AllZip-long (λ (layer : List Iso) (placed : List (List Cell)). AllZip (λ by tile. IsLeastIsometry g shape tile by) layer placed) layers.layers s.tiles s.spelled.isometries in
      record {
        count = s.count;
        tiles = s.tiles;
        spelled = s.spelled;
        coronas = s.coronas;
        free = λ t. (s.coronas, subst (StaysHoleFree g (shape ∷ [])) (take_all levels s.tiles (let all = at_all t in let count = s.count in omega (arith, all, long, count))) s.free);
      }

  no_cut : (vars : List Variable) (proof : Proof) → All (IsLawfulStep g shape j vars) proof.steps → HasCutsUpTo levels proof → IsFalse hole_free → HasNoCut proof
  no_cut vars proof lawful cuts f = no_cut_at_none g shape j vars proof lawful (subst (λ n. HasCutsUpTo n proof) (at_none f) cuts)

  pub level_answer_of : (version : Version) → IsGrid g → IsPolyform g shape → 1 ≤ j → (turns size : ℕ) (answer : LevelAnswer) → IsAnswerUpTo version g shape j levels turns size answer → IsLevelAnswer version g shape j hole_free turns size answer
  level_answer_of version law form some turns size (Coronas layers) a = spells_level layers a
  level_answer_of version law form some turns size (Refuted proof) a =
      let none = refuted_means_none version g shape j size proof law form some a.refutes in
      record { refutes = a.refutes; new_steps = a.new_steps; none_free = none.0; none = none.1; no_cut = no_cut a.refutes.vars proof a.refutes.lawful a.cuts }
  level_answer_of version law form some turns size (Spent proof) a = record { is_spent = a.is_spent; open_still = a.open_still; no_cut = no_cut a.is_spent.vars proof a.is_spent.lawful a.cuts }
  level_answer_of version law form some turns size TooLarge a = a
