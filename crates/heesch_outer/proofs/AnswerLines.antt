-- The lines of an answer that is allowed for a true entry have the forms of a catalogue's.
use Rattle.std.proofs.Common.{◌≡◌, ◌≢◌, ℕ, ◌+◌, ◌≤◌, List, sym, subst, arith}
use Rattle.std.specs.List.{AllByRecursion}
use Rattle.heesch_grid.specs.declared.Cell.{Cell}
use Rattle.heesch_grid.specs.Geometry.{Geometry, IsGrid}
use Rattle.heesch_grid.specs.Polyform.{IsFreePolyform}
use Rattle.heesch_cert.specs.declared.limits.Limits.{Limits}
use Rattle.heesch_cert.specs.declared.entry.Wall.{Wall}
use Rattle.heesch_cert.specs.declared.entry.Wall.TheVariants as walls
use Rattle.heesch_cert.specs.declared.entry.Bare.{Bare}
use Rattle.heesch_cert.specs.declared.entry.Bare.TheVariants as bares
use Rattle.heesch_cert.specs.declared.entry.Evidence.{Evidence}
use Rattle.heesch_cert.specs.declared.entry.Evidence.TheVariants as evidences
use Rattle.heesch_cert.specs.declared.verdict.Verdict.{Verdict}
use Rattle.heesch_cert.specs.declared.verdict.Verdict.TheVariants as verdicts
use Rattle.heesch_cert.specs.Limits.{AreLimits}
use Rattle.heesch_cert.specs.TrueEntry.{IsTrueEntry, FormFits, WallHolds, WallShows}
use Rattle.heesch_line.specs.Forms.{IsLine}
use Rattle.heesch_text.specs.Catalogue.{layer_lines, proof_lines}
use Rattle.heesch_text.specs.Naturals.{HasNaturals}
use Rattle.heesch_written.proofs.Coronas.{coronas_are_near}
use Rattle.heesch_written.proofs.Holes.{holes_are_near}
use Rattle.heesch_written.proofs.Lists.{all_given}
use Rattle.heesch_written.proofs.Proven.{refuted, spent}
use Rattle.heesch_written.proofs.Searches.{bounded, layers_hold}
use Rattle.heesch_outer.specs.declared.answer.OuterAnswer.{OuterAnswer}
use Rattle.heesch_outer.specs.declared.answer.OuterAnswer.TheVariants as outers
use Rattle.heesch_outer.specs.declared.answers.OuterEntry.{OuterEntry}
use Rattle.heesch_outer.specs.Answer.{FitsOuter, IsBehindWall, IsOuterAnswer, IsSearched}
use Rattle.heesch_outer.specs.Record.{answer_lines}

module _ (g : Geometry) (law : IsGrid g) (limits : Limits) (n : ℕ) (shape : List Cell) (low : 1 ≤ n) (high : n ≤ 32) (free : IsFreePolyform g n shape) where
  -- of a search for h + 1 outer coronas
  searched : (h : ℕ) → h + 1 ≤ 6 → (answer : OuterAnswer) → IsSearched g limits shape h answer → AllByRecursion HasNaturals (answer_lines answer) → AllByRecursion IsLine (answer_lines answer)
  searched h few outers.Tiles is naturals = tt
  searched h few outers.Unknown is naturals = tt
  searched h few (outers.More layers) is naturals =
      let many = is.count in
      all_given HasNaturals IsLine (layer_lines layers.layers)
      (layers_hold g law layers.layers (coronas_are_near g law n shape layers.layers is.tiles low high free (omega (arith, many, few)) is.spelled is.coronas.0)) naturals
  searched h few (outers.Same proof) is naturals =
      all_given HasNaturals IsLine (proof_lines proof) (refuted holes_are_near limits.version g law n shape low high free (h + 1) (omega arith) few limits.size proof is.ends) naturals
  searched h few (outers.Spent proof) is naturals =
      all_given HasNaturals IsLine (proof_lines proof) (spent holes_are_near limits.version g law n shape low high free (h + 1) (omega arith) few limits.turns limits.size proof is.ends) naturals

  -- of the wall's own proof
  same_wall : (h : ℕ) → h + 1 ≤ 6 → (proof : _) → WallShows g limits shape (h + 1) (walls.Refuted proof) → (answer : OuterAnswer) → answer ≡ outers.Same proof → AllByRecursion HasNaturals (answer_lines answer) → AllByRecursion IsLine (answer_lines answer)
  same_wall h few proof shows answer is naturals =
      subst (λ a. AllByRecursion IsLine (answer_lines a)) (sym is)
      (all_given HasNaturals IsLine (proof_lines proof) (refuted holes_are_near limits.version g law n shape low high free (h + 1) (omega arith) few limits.size proof shows) (subst (λ a. AllByRecursion HasNaturals (answer_lines a)) is naturals))

  unknown : (answer : OuterAnswer) → answer ≡ outers.Unknown → AllByRecursion IsLine (answer_lines answer)
  unknown answer is = subst (λ a. AllByRecursion IsLine (answer_lines a)) (sym is) tt

  behind_wall : (h : ℕ) (wall : Wall) (bare : Bare) → (wall ≢ walls.Absent → h + 1 ≤ 6) → WallShows g limits shape (h + 1) wall → (answer : OuterAnswer) → IsBehindWall g limits shape h wall bare answer
      → AllByRecursion HasNaturals (answer_lines answer) → AllByRecursion IsLine (answer_lines answer)
  behind_wall h walls.Absent bare few shows answer is naturals = unknown answer is
  behind_wall h (walls.Spent proof) bare few shows answer is naturals = unknown answer is
  behind_wall h walls.Size bare few shows answer is naturals = unknown answer is
  behind_wall h (walls.Refuted proof) bares.Same few shows answer is naturals = same_wall h (few (λ e. cc)) proof shows answer is naturals
  behind_wall h (walls.Refuted proof) bares.Absent few shows answer is naturals = searched h (few (λ e. cc)) answer is naturals
  behind_wall h (walls.Refuted proof) (bares.Refuted other) few shows answer is naturals = searched h (few (λ e. cc)) answer is naturals
  behind_wall h (walls.Refuted proof) (bares.Spent other) few shows answer is naturals = searched h (few (λ e. cc)) answer is naturals
  behind_wall h (walls.Refuted proof) bares.Size few shows answer is naturals = searched h (few (λ e. cc)) answer is naturals
  behind_wall h (walls.Refuted proof) bares.Open few shows answer is naturals = searched h (few (λ e. cc)) answer is naturals

  fits : AreLimits limits → (verdict : Verdict) (evidence : Evidence) → FormFits g limits shape verdict evidence → WallHolds g limits shape verdict evidence → (answer : OuterAnswer) → FitsOuter g limits shape verdict evidence answer
      → AllByRecursion HasNaturals (answer_lines answer) → AllByRecursion IsLine (answer_lines answer)
  fits are (verdicts.Tiles kind domain classes) evidence form shows answer is naturals = subst (λ a. AllByRecursion IsLine (answer_lines a)) (sym is) tt
  fits are (verdicts.Heesch h m) (evidences.Cover tiling classes) form shows answer is naturals = absurd is
  fits are (verdicts.Levels h) (evidences.Cover tiling classes) form shows answer is naturals = absurd is
  fits are (verdicts.Holes h) (evidences.Cover tiling classes) form shows answer is naturals = absurd is
  fits are (verdicts.Turns h phase at) (evidences.Cover tiling classes) form shows answer is naturals = absurd is
  fits are (verdicts.Size h phase at) (evidences.Cover tiling classes) form shows answer is naturals = absurd is
  fits are (verdicts.Heesch h m) (evidences.Search found wall bare wider triples) form shows answer is naturals =
      behind_wall h wall bare (bounded limits are wall bare wider (verdicts.Heesch h m) form.1).next shows answer is naturals
  fits are (verdicts.Levels h) (evidences.Search found wall bare wider triples) form shows answer is naturals =
      behind_wall h wall bare (bounded limits are wall bare wider (verdicts.Levels h) form.1).next shows answer is naturals
  fits are (verdicts.Holes h) (evidences.Search found wall bare wider triples) form shows answer is naturals =
      behind_wall h wall bare (bounded limits are wall bare wider (verdicts.Holes h) form.1).next shows answer is naturals
  fits are (verdicts.Turns h phase at) (evidences.Search found wall bare wider triples) form shows answer is naturals =
      behind_wall h wall bare (bounded limits are wall bare wider (verdicts.Turns h phase at) form.1).next shows answer is naturals
  fits are (verdicts.Size h phase at) (evidences.Search found wall bare wider triples) form shows answer is naturals =
      behind_wall h wall bare (bounded limits are wall bare wider (verdicts.Size h phase at) form.1).next shows answer is naturals

-- where its natural numbers fit 32 bits
pub answer_has_lines : (g : Geometry) (law : IsGrid g) (limits : Limits) → AreLimits limits → (e : OuterEntry) → IsTrueEntry g limits e.entry → IsOuterAnswer g limits e.entry e.answer → AllByRecursion HasNaturals (answer_lines e.answer) → AllByRecursion IsLine (answer_lines e.answer)
answer_has_lines g law limits are e t is naturals =
    let s = t.shape in
    fits g law limits s.0 e.entry.cells s.1 s.2 s.3 are e.entry.verdict e.entry.evidence t.form t.wall e.answer is naturals
