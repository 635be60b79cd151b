-- What is asked of an answer behind a refuted wall, and what it says.
use Rattle.std.proofs.Common.{◌≡◌, refl, sym, subst, ℕ, ◌+◌, ◌≤◌, List, length, arith}
use Rattle.std.specs.Prelude.{◌↔◌, Option}
use Rattle.heesch_grid.specs.declared.Cell.{Cell}
use Rattle.heesch_grid.specs.Geometry.{Geometry, IsGrid}
use Rattle.heesch_cert.specs.declared.limits.Limits.{Limits}
use Rattle.heesch_cert.specs.declared.entry.Layers.{Layers}
use Rattle.heesch_cert.specs.declared.entry.Wall.TheVariants.{Refuted as WallRefuted}
use Rattle.heesch_cert.specs.declared.entry.Bare.{Bare}
use Rattle.heesch_cert.specs.declared.entry.Bare.TheVariants.{Absent as NoBare, Same as BareSame, Refuted as BareRefuted, Spent as BareSpent, Size as BareSize, Open as BareOpen}
use Rattle.heesch_cert.specs.declared.entry.TripleProof.{TripleProof}
use Rattle.heesch_cert.specs.declared.entry.Evidence.{Evidence}
use Rattle.heesch_cert.specs.declared.entry.Evidence.TheVariants.{Search}
use Rattle.heesch_cert.specs.declared.entry.Entry.{Entry}
use Rattle.heesch_cert.specs.declared.verdict.Verdict.{Verdict}
use Rattle.heesch_cert.specs.declared.verdict.Verdict.TheVariants.{Tiles as TilesVerdict, Heesch, Levels, Holes, Turns, Size}
use Rattle.heesch_cert.specs.declared.proof.Proof.{Proof}
use Rattle.heesch_cert.specs.Limits.{AreLimits}
use Rattle.heesch_cert.specs.Proofs.{RefutesCoronas, IsTooLarge}
use Rattle.heesch_cert.proofs.Exactly.{too_large_exactly}
use Rattle.heesch_cert.specs.TrueEntry.{FormFits, FreeHolds, WallHolds, IsTrueEntry, first_number}
use Rattle.heesch_audit.proofs.Bounded.{search_form}
use Rattle.heesch_audit.proofs.Canonical.{form_of}
use Rattle.heesch_outer.specs.declared.answer.OuterAnswer.{OuterAnswer}
use Rattle.heesch_outer.specs.declared.answer.OuterAnswer.TheVariants.{Tiles, Unknown, More, Same, Spent}
use Rattle.heesch_outer.specs.Answer.{FitsOuter, IsBeyondWall, IsOuterAnswer, IsSearched}
use Rattle.heesch_outer.specs.Found.{IsNearAnswer}
use Rattle.heesch_outer.specs.Statements.{TellsNumber}
use Rattle.heesch_outer.proofs.Entries.{layers_near, level_of, proof_near, steps_near}
use Rattle.heesch_outer.proofs.OuterRight.{outer_answers_are_right}

-- behind a wall that another search is needed beyond, an answer is one of that search
beyond_searched : (g : Geometry) (limits : Limits) (cells : List Cell) (h : ℕ) (proof : Proof) (bare : Bare) (answer : OuterAnswer) → ¬ (bare ≡ BareSame) → IsBeyondWall g limits cells h proof bare answer ↔ IsSearched g limits cells h answer
beyond_searched g limits cells h proof NoBare answer other = ((λ a. a), (λ a. a))
beyond_searched g limits cells h proof BareSame answer other = absurd (other refl)
beyond_searched g limits cells h proof (BareRefuted p) answer other = ((λ a. a), (λ a. a))
beyond_searched g limits cells h proof (BareSpent p) answer other = ((λ a. a), (λ a. a))
beyond_searched g limits cells h proof BareSize answer other = ((λ a. a), (λ a. a))
beyond_searched g limits cells h proof BareOpen answer other = ((λ a. a), (λ a. a))

module _ (g : Geometry) (limits : Limits) (entry : Entry) (true_entry : IsTrueEntry g limits entry) (free : Layers) (proof : Proof) (bare : Bare) (wider : Option Layers) (triples : List TripleProof) (is : entry.evidence ≡ Search free (WallRefuted proof) bare wider triples) where
  abbrev evidence : Evidence
  evidence = Search free (WallRefuted proof) bare wider triples

  form : FormFits g limits entry.cells entry.verdict evidence
  form = subst (FormFits g limits entry.cells entry.verdict) is true_entry.form

  -- they are as many as the verdict says
  pub count_in : length free.layers ≡ first_number entry.verdict
  count_in = (subst (FreeHolds g entry.cells entry.verdict) is true_entry.free).0

  -- one corona more was sought
  pub level_in : length free.layers + 1 ≤ limits.levels
  level_in =
      let fits = (search_form g limits entry.cells entry.verdict free (WallRefuted proof) bare wider triples).0 form in
      subst (λ n. n + 1 ≤ limits.levels) (sym count_in) (level_of limits proof bare wider entry.verdict fits.1)

  wall_in : RefutesCoronas limits.version g entry.cells (length free.layers + 1) limits.size proof
  wall_in = subst (λ n. RefutesCoronas limits.version g entry.cells (n + 1) limits.size proof) (sym count_in) (subst (WallHolds g limits entry.cells entry.verdict) is true_entry.wall)

  fits_beyond : (answer : OuterAnswer) (verdict : Verdict) → FormFits g limits entry.cells verdict evidence → FitsOuter g limits entry.cells verdict evidence answer ↔ IsBeyondWall g limits entry.cells (first_number verdict) proof bare answer
  fits_beyond answer (TilesVerdict kind domain classes) f = absurd f.1
  fits_beyond answer (Heesch h m) f = ((λ a. a), (λ a. a))
  fits_beyond answer (Levels h) f = ((λ a. a), (λ a. a))
  fits_beyond answer (Holes h) f = ((λ a. a), (λ a. a))
  fits_beyond answer (Turns h phase at) f = ((λ a. a), (λ a. a))
  fits_beyond answer (Size h phase at) f = ((λ a. a), (λ a. a))

  -- an answer is allowed exactly where it is beyond the wall
  pub answer_beyond : (answer : OuterAnswer) → IsOuterAnswer g limits entry answer ↔ IsBeyondWall g limits entry.cells (length free.layers) proof bare answer
  answer_beyond answer =
      let both = fits_beyond answer entry.verdict form in (
        (λ a. subst (λ n. IsBeyondWall g limits entry.cells n proof bare answer) (sym count_in) (both.0 (subst (λ e. FitsOuter g limits entry.cells entry.verdict e answer) is a))),
        (λ b. subst (λ e. FitsOuter g limits entry.cells entry.verdict e answer) (sym is) (both.1 (subst (λ n. IsBeyondWall g limits entry.cells n proof bare answer) count_in b))),
      )

  pub answer_searched : ¬ (bare ≡ BareSame) → (answer : OuterAnswer) → IsOuterAnswer g limits entry answer ↔ IsSearched g limits entry.cells (length free.layers) answer
  answer_searched other answer =
      let a = answer_beyond answer in
      let b = beyond_searched g limits entry.cells (length free.layers) proof bare answer other in
      ((λ x. b.0 (a.0 x)), (λ x. a.1 (b.1 x)))

  -- the formula of the wall isn't too large
  pub fits_in : IsGrid g → ¬ IsTooLarge limits.version g entry.cells (length free.layers + 1) limits.size
  fits_in law large =
      let r = wall_in in
      let above = (too_large_exactly limits.version g law entry.cells (form_of g law entry.cells true_entry.shape).polyform (length free.layers + 1) r.vars r.count r.clauses r.formula limits.size).0 large in
      let fits = r.fits in
      omega (arith, above, fits)

  -- the answer tells the number of the shape
  pub number_in : IsGrid g → AreLimits limits → (answer : OuterAnswer) → IsOuterAnswer g limits entry answer → TellsNumber g entry.cells (first_number entry.verdict) answer
  number_in law ranges answer a = outer_answers_are_right g limits entry answer law ranges true_entry a

  -- what a search of its own ends with is near
  pub near_in : IsGrid g → AreLimits limits → (answer : OuterAnswer) → IsSearched g limits entry.cells (length free.layers) answer → IsNearAnswer answer
  near_in law ranges answer = near answer
    where
      few : length free.layers + 1 ≤ 6
      few = let level = level_in in let most = ranges.levels_range.1 in omega (arith, level, most)

      near : (answer : OuterAnswer) → IsSearched g limits entry.cells (length free.layers) answer → IsNearAnswer answer
      near Tiles a = tt
      near Unknown a = tt
      near (More layers) a = let long = a.count in layers_near g law entry.cells true_entry.shape layers.layers a.tiles (let most = few in omega (arith, long, most)) a.spelled a.coronas.0
      near (Same proof) a = proof_near g law entry.cells true_entry.shape limits (length free.layers + 1) proof (omega arith) few a.ends
      near (Spent proof) a = let s = a.ends in steps_near g law entry.cells true_entry.shape limits.version (length free.layers + 1) s.vars s.count s.clauses proof (omega arith) few s.formula s.lawful
