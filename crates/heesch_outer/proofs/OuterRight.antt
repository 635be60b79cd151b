-- The answers that are allowed for a true entry are right.
use Rattle.std.proofs.Common.{◌≡◌, refl, sym, subst, ◌∙◌, ℕ, ◌+◌, List, length}
use Rattle.std.specs.Prelude.{Option}
use Rattle.std.specs.List.{AllZip}
use Rattle.std.proofs.lemmas.Slice.Zip.{AllZip-long}
use Rattle.heesch_grid.specs.declared.Cell.{Cell}
use Rattle.heesch_grid.specs.declared.isometries.Iso.{Iso}
use Rattle.heesch_grid.specs.Geometry.{Geometry, IsGrid}
use Rattle.heesch_grid.specs.Polyform.{IsPolyform}
use Rattle.heesch_grid.specs.Placement.{IsLeastIsometry}
use Rattle.heesch_grid.specs.Corona.{HasHeeschNumber}
use Rattle.heesch_grid.proofs.IsometryFacts.{image_polyform}
use Rattle.heesch_cert.specs.declared.limits.Limits.{Limits}
use Rattle.heesch_cert.specs.declared.entry.Layers.{Layers}
use Rattle.heesch_cert.specs.declared.entry.Wall.{Wall}
use Rattle.heesch_cert.specs.declared.entry.Wall.TheVariants.{Absent as NoWall, Refuted as WallRefuted, Spent as WallSpent, Size as WallSize}
use Rattle.heesch_cert.specs.declared.entry.Bare.{Bare}
use Rattle.heesch_cert.specs.declared.entry.Bare.TheVariants.{Absent as NoBare, Same as BareSame, Refuted as BareRefuted, Spent as BareSpent, Size as BareSize, Open as BareOpen}
use Rattle.heesch_cert.specs.declared.entry.Evidence.{Evidence}
use Rattle.heesch_cert.specs.declared.entry.Evidence.TheVariants.{Cover, Search}
use Rattle.heesch_cert.specs.declared.verdict.Phase.TheVariants.{Free, Bare as AtBare}
use Rattle.heesch_cert.specs.declared.verdict.Verdict.{Verdict}
use Rattle.heesch_cert.specs.declared.verdict.Verdict.TheVariants.{Tiles as TilesVerdict, Heesch, Levels, Holes, Turns, Size}
use Rattle.heesch_cert.specs.declared.proof.Proof.{Proof}
use Rattle.heesch_cert.specs.declared.proof.Step.{Step}
use Rattle.heesch_cert.specs.declared.proof.Step.TheVariants.{Learn, Cut}
use Rattle.heesch_cert.specs.Proofs.{IsLearnStep, HasNoCut}
use Rattle.heesch_cert.specs.TrueEntry.{first_number, WallShows, SameWhereNoCut, FitsVerdict, FormFits, WallHolds, BareHolds}
use Rattle.heesch_cert.specs.RightVerdict.{IsRight}
use Rattle.heesch_cert.proofs.EntryRight.{true_entries_are_right}
use Rattle.heesch_outer.specs.declared.answer.OuterAnswer.{OuterAnswer}
use Rattle.heesch_outer.specs.declared.answer.OuterAnswer.TheVariants.{Tiles, Unknown, More, Same, Spent}
use Rattle.heesch_levels.specs.UpTo.{IsStepUpTo, HasCutsUpTo}
use Rattle.heesch_outer.specs.Answer.{IsSearched, IsBeyondWall, IsBehindWall, FitsOuter}
use Rattle.heesch_outer.specs.Statements.{TellsNumber, OuterAnswersAreRight}
use Rattle.heesch_outer.proofs.OuterNumbers.{outer_numbers_are_next}
use Rattle.heesch_outer.proofs.OuterSound.{outer_refutations_leave_none}

learnt_up_to : (h : ℕ) (step : Step) → IsLearnStep step → IsStepUpTo h step
learnt_up_to h (Learn clause hints) learnt = tt
learnt_up_to h (Cut cut) learnt = absurd learnt

-- a proof without cuts has none above h
pub no_cut_up_to : (h : ℕ) (proof : Proof) → HasNoCut proof → HasCutsUpTo h proof
no_cut_up_to h proof none = λ k d below. learnt_up_to h _ (none k d below)

module _ (g : Geometry) (law : IsGrid g) (limits : Limits) (shape : List Cell) (form : IsPolyform g shape) where
  -- a refuted wall tells the Heesch number
  number_of_wall : (verdict : Verdict) (proof : Proof) (bare : Bare) (wider : Option Layers) (evidence : Evidence) → FitsVerdict limits (WallRefuted proof) bare wider verdict → IsRight g limits shape evidence verdict → HasHeeschNumber g shape (first_number verdict)
  number_of_wall (TilesVerdict kind domain classes) proof bare wider evidence f r = absurd f
  number_of_wall (Heesch h m) proof bare wider evidence f r = r.0
  number_of_wall (Levels h) proof bare wider evidence f r = let bad : WallRefuted proof ≡ NoWall = f.1 in absurd (let n : ⊥ = cc in n)
  number_of_wall (Holes h) proof bare wider evidence f r = r.0
  number_of_wall (Turns h Free at) proof bare wider evidence f r = absurd f.2
  number_of_wall (Size h Free at) proof bare wider evidence f r = let bad : WallRefuted proof ≡ WallSize = f.2 in absurd (let n : ⊥ = cc in n)
  number_of_wall (Turns h AtBare at) proof bare wider evidence f r = r.0
  number_of_wall (Size h AtBare at) proof bare wider evidence f r = r.0

  searched : (h : ℕ) → HasHeeschNumber g shape h → (answer : OuterAnswer) → IsSearched g limits shape h answer → TellsNumber g shape h answer
  searched h number Tiles a = tt
  searched h number Unknown a = tt
  searched h number (More layers) a =
      let long : length a.tiles ≡ length layers.layers = AllZip-long (λ (layer : List Iso) (placed : List (List Cell)). AllZip (λ by tile. IsLeastIsometry g shape tile by) layer placed) layers.layers a.tiles a.spelled.isometries in
      (outer_numbers_are_next g shape h number).more (a.tiles, long ∙ a.count, a.coronas)
  searched h number (Same proof) a = (outer_numbers_are_next g shape h number).same (outer_refutations_leave_none g limits shape h proof law form a)
  searched h number (Spent proof) a = tt

  beyond : (h : ℕ) → HasHeeschNumber g shape h → (proof : Proof) (bare : Bare) → WallShows g limits shape (h + 1) (WallRefuted proof) → SameWhereNoCut (WallRefuted proof) bare → (answer : OuterAnswer) → IsBeyondWall g limits shape h proof bare answer → TellsNumber g shape h answer
  beyond h number proof BareSame w s answer a =
      subst (TellsNumber g shape h) (sym a)
      ((outer_numbers_are_next g shape h number).same (outer_refutations_leave_none g limits shape h proof law form (record { ends = w; outer_cuts = no_cut_up_to h proof (s.0 refl) })))
  beyond h number proof NoBare w s answer a = searched h number answer a
  beyond h number proof (BareRefuted other) w s answer a = searched h number answer a
  beyond h number proof (BareSpent other) w s answer a = searched h number answer a
  beyond h number proof BareSize w s answer a = searched h number answer a
  beyond h number proof BareOpen w s answer a = searched h number answer a

  behind : (verdict : Verdict) (wall : Wall) (bare : Bare) (wider : Option Layers) (evidence : Evidence) → FitsVerdict limits wall bare wider verdict → IsRight g limits shape evidence verdict → WallShows g limits shape (first_number verdict + 1) wall → SameWhereNoCut wall bare
      → (answer : OuterAnswer) → IsBehindWall g limits shape (first_number verdict) wall bare answer → TellsNumber g shape (first_number verdict) answer
  behind verdict NoWall bare wider evidence f r w s answer a = subst (TellsNumber g shape (first_number verdict)) (sym a) tt
  behind verdict (WallRefuted proof) bare wider evidence f r w s answer a = beyond (first_number verdict) (number_of_wall verdict proof bare wider evidence f r) proof bare w s answer a
  behind verdict (WallSpent proof) bare wider evidence f r w s answer a = subst (TellsNumber g shape (first_number verdict)) (sym a) tt
  behind verdict WallSize bare wider evidence f r w s answer a = subst (TellsNumber g shape (first_number verdict)) (sym a) tt

  tells : (verdict : Verdict) (evidence : Evidence) → FormFits g limits shape verdict evidence → WallHolds g limits shape verdict evidence → BareHolds g limits shape verdict evidence → IsRight g limits shape evidence verdict
      → (answer : OuterAnswer) → FitsOuter g limits shape verdict evidence answer → TellsNumber g shape (first_number verdict) answer
  tells (TilesVerdict kind domain classes) evidence f w b r answer a = subst (TellsNumber g shape 0) (sym a) tt
  tells verdict (Cover tiling classes) f w b r answer a = absurd a
  tells verdict (Search free wall bare wider triples) f w b r answer a = behind verdict wall bare wider (Search free wall bare wider triples) f.1 r w b.0 answer a

pub outer_answers_are_right : OuterAnswersAreRight
outer_answers_are_right g limits entry answer law ranges t a =
    let s = t.shape.3 in
    let form : IsPolyform g entry.cells = image_polyform g law s.cells entry.cells s.polyform s.canonical.is_image in
    tells g law limits entry.cells form entry.verdict entry.evidence t.form t.wall t.bare (true_entries_are_right g limits entry law ranges t) answer a
