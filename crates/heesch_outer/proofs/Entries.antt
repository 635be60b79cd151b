-- What a true entry with a refuted wall says of its number, and what of a search lies near 0.
use Rattle.std.proofs.Common.{◌≡◌, ℕ, ◌+◌, ◌≤◌, List, length, arith, All}
use Rattle.std.specs.Prelude.{Option}
use Rattle.std.proofs.lemmas.List.Elements.{All-weaker, All-from_recursion}
use Rattle.heesch_grid.specs.declared.Cell.{Cell}
use Rattle.heesch_grid.specs.declared.isometries.Iso.{Iso}
use Rattle.heesch_grid.specs.Geometry.{Geometry, IsGrid}
use Rattle.heesch_grid.specs.Vectors.{IsWithin}
use Rattle.heesch_grid.specs.Corona.{AreCoronas}
use Rattle.heesch_grid.specs.CoronaFormula.{Variable}
use Rattle.heesch_cnf.specs.declared.literal.Lit.{Lit}
use Rattle.heesch_cnf.specs.declared.version.Version.{Version}
use Rattle.heesch_cert.specs.declared.limits.Limits.{Limits}
use Rattle.heesch_cert.specs.declared.entry.Layers.{Layers}
use Rattle.heesch_cert.specs.declared.entry.Wall.TheVariants.{Absent as NoWall, Refuted as WallRefuted, Size as WallSize}
use Rattle.heesch_cert.specs.declared.entry.Bare.{Bare}
use Rattle.heesch_cert.specs.declared.verdict.Phase.TheVariants.{Free, Bare as AtBare}
use Rattle.heesch_cert.specs.declared.verdict.Verdict.{Verdict}
use Rattle.heesch_cert.specs.declared.verdict.Verdict.TheVariants.{Tiles, Heesch, Levels, Holes, Turns, Size}
use Rattle.heesch_cert.specs.declared.proof.Proof.{Proof}
use Rattle.heesch_cert.specs.declared.proof.Step.{Step}
use Rattle.heesch_cert.specs.declared.proof.Step.TheVariants.{Learn, Cut}
use Rattle.heesch_cert.specs.Formulas.{IsCountedFormula}
use Rattle.heesch_cert.specs.Proofs.{RefutesCoronas, IsLawfulStep}
use Rattle.heesch_cert.specs.TrueEntry.{Spells, FitsVerdict, first_number}
use Rattle.heesch_written.specs.Near.{IsNearPlace, IsNearLayer}
use Rattle.heesch_written.proofs.Shapes.{shapes_are_near}
use Rattle.heesch_written.proofs.Coronas.{coronas_are_near}
use Rattle.heesch_written.proofs.Holes.{holes_are_near}
use Rattle.heesch_logs.specs.Near.{IsNearIso, AreNearLayers, IsNearStep, IsNearProof}
use Rattle.heesch_audit.specs.Shapes.{AreCanonical}

-- ---- a true entry

module _ (limits : Limits) (proof : Proof) (bare : Bare) (wider : Option Layers) where
  -- one corona more than its verdict says was sought
  pub level_of : (verdict : Verdict) → FitsVerdict limits (WallRefuted proof) bare wider verdict → first_number verdict + 1 ≤ limits.levels
  level_of (Tiles kind domain classes) f = absurd f
  level_of (Heesch h m) f = let low = f.0 in let high = f.1 in omega (arith, low, high)
  level_of (Levels h) f = let bad : WallRefuted proof ≡ NoWall = f.1 in absurd (let n : ⊥ = cc in n)
  level_of (Holes h) f = f.0
  level_of (Turns h Free at) f = absurd f.2
  level_of (Size h Free at) f = let bad : WallRefuted proof ≡ WallSize = f.2 in absurd (let n : ⊥ = cc in n)
  level_of (Turns h AtBare at) f = let low = f.0 in let high = f.1 in omega (arith, low, high)
  level_of (Size h AtBare at) f = let low = f.0 in let high = f.1 in omega (arith, low, high)

-- ---- nearness

module _ (g : Geometry) (law : IsGrid g) (cells : List Cell) (shape : AreCanonical g cells) where
  pub cells_near : All (IsWithin 100000) cells
  cells_near = All-from_recursion (IsWithin 100000) cells (shapes_are_near g law shape.0 cells shape.2 shape.3)

  layer_near : (layer : List Iso) → IsNearLayer g layer → All IsNearIso layer
  layer_near layer near = All-weaker (IsNearPlace g) IsNearIso (λ by h. h.1) layer (All-from_recursion (IsNearPlace g) layer near.near)

  -- a proof with lawful cuts over a corona formula is near
  pub steps_near : (version : Version) (j : ℕ) (vars : List Variable) (count : ℕ) (clauses : List (List Lit)) (proof : Proof) → 1 ≤ j → j ≤ 6 → IsCountedFormula version g cells j vars count clauses → All (IsLawfulStep g cells j vars) proof.steps → IsNearProof proof
  steps_near version j vars count clauses proof low high formula lawful = λ k d below. step_near _ (lawful k d below)
    where
      step_near : (step : Step) → IsLawfulStep g cells j vars step → IsNearStep step
      step_near (Learn clause hints) l = tt
      step_near (Cut cut) l = All-from_recursion (IsWithin 100000) cut.hole (holes_are_near version g law shape.0 cells j vars count clauses cut shape.1 shape.2 shape.3 low high formula l).near

  pub proof_near : (limits : Limits) (j : ℕ) (proof : Proof) → 1 ≤ j → j ≤ 6 → RefutesCoronas limits.version g cells j limits.size proof → IsNearProof proof
  proof_near limits j proof low high r = steps_near limits.version j r.vars r.count r.clauses proof low high r.formula r.lawful

  pub layers_near : (layers : List (List Iso)) (tiles : List (List (List Cell))) → length layers ≤ 6 → Spells g cells layers tiles → AreCoronas g cells tiles → AreNearLayers layers
  layers_near layers tiles few spelled coronas =
      All-weaker (IsNearLayer g) (All IsNearIso) layer_near layers (All-from_recursion (IsNearLayer g) layers (coronas_are_near g law shape.0 cells layers tiles shape.1 shape.2 shape.3 few spelled coronas))
