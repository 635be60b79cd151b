-- What the end of a search says of the level.
use Rattle.std.proofs.Common.{◌≡◌, refl, sym, ap, subst, ◌∙◌, ℕ, ◌≤◌, ◌^◌, List, [], ◌∷◌, length, map, Bool, true, false, All, arith}
use Rattle.std.specs.Prelude.{IfSome, MatchOption, Option, Some, None}
use Rattle.std.specs.List.{AllZip, range_with_len}
use Rattle.std.proofs.lemmas.List.{length-map}
use Rattle.std.proofs.lemmas.List.FromFn.{length-range_with_len, take-map-range_with_len}
use Rattle.std.proofs.lemmas.Slice.Zip.{AllZip-long}
use Rattle.heesch_grid.specs.declared.Cell.{Cell}
use Rattle.heesch_grid.specs.declared.isometries.Iso.{Iso}
use Rattle.heesch_grid.specs.Geometry.{Geometry, IsGrid}
use Rattle.heesch_grid.specs.Corona.{StaysHoleFree}
use Rattle.heesch_grid.specs.Polyform.{IsPolyform}
use Rattle.heesch_grid.specs.Placement.{IsLeastIsometry}
use Rattle.heesch_grid.specs.Clauses.{formula_size}
use Rattle.heesch_grid.specs.CoronaFormula.{Variable}
use Rattle.heesch_grid.specs.Statements.{chosen_layer, chosen_layers}
use Rattle.heesch_cnf.specs.declared.literal.Lit.{Lit}
use Rattle.heesch_cnf.specs.Clauses.{assignment_of}
use Rattle.heesch_cnf.specs.declared.log.Log.{Log}
use Rattle.heesch_cnf.specs.declared.version.Version.{Version}
use Rattle.heesch_cnf.specs.Lines.{clauses_with, Refutes, IsSpent, LinesAreNew}
use Rattle.heesch_cdcl.specs.Problem.{Problem, IsModel, SameProblem}
use Rattle.heesch_cdcl.specs.Empty.{IsFirstEmpty}
use Rattle.heesch_cdcl.specs.Searching.{NoFinal}
use Rattle.heesch_cdcl.proofs.Counting.{few_lines}
use Rattle.heesch_cert.specs.declared.proof.Proof.{Proof}
use Rattle.heesch_cert.specs.declared.proof.Step.{Step}
use Rattle.heesch_cert.specs.declared.entry.Layers.{Layers}
use Rattle.heesch_cert.specs.Formulas.{IsCountedFormula}
use Rattle.heesch_cert.specs.TrueEntry.{Spells}
use Rattle.heesch_cert.specs.Proofs.{log_of, line_of_step, IsLawfulStep, HasNoCut, RefutesCoronas, IsSpentOnCoronas, IsTooLarge}
use Rattle.heesch_cert.proofs.Models.{models_are_coronas}
use Rattle.heesch_cert.proofs.Exactly.{too_large_exactly}
use Rattle.heesch_place.specs.Universes.{Levels}
use Rattle.heesch_levels.specs.Wall.{RefutesWithoutCut, ShowsHoles, level_answer}
use Rattle.heesch_levels.specs.declared.answer.LevelAnswer.{LevelAnswer}
use Rattle.heesch_levels.specs.declared.answer.WallAnswer.{WallAnswer}
use Rattle.heesch_levels.specs.declared.answer.LevelAnswer.TheVariants.{Coronas, Refuted, Spent}
use Rattle.heesch_levels.specs.declared.searching.Ending.{Ending}
use Rattle.heesch_levels.specs.declared.searching.Ending.TheVariants.{Model, Refuted as Refuted-end, Spent as Spent-end}
use Rattle.heesch_levels.specs.declared.searching.Search.{Search}
use Rattle.heesch_levels.specs.Searching.{IsCutUpTo, IsEnded, IsEnding, IsFreeUpTo, IsUnder, IsAtOnce, EndsAtOnce}
use Rattle.heesch_levels.specs.Steps.{proof_of}
use Rattle.heesch_levels.specs.UpTo.{HasCutsUpTo, IsAnswerUpTo, IsSpentUpTo, IsStepUpTo, RefutesUpTo, SpellsUpTo}
use Rattle.heesch_levels.specs.Answer.{IsLevelAnswer, SpellsCoronas, RefutesLevel, NamesEmptyClause, NamesEmptyClauses}
use Rattle.heesch_levels.proofs.SearchFacts.{model_first}
use Rattle.heesch_levels.proofs.StepFacts.{log_of_proof, steps_each}
use Rattle.heesch_levels.proofs.UpToFacts.{level_answer_of}

-- ---- an empty clause of the formula

no_steps : (vars : List Variable) (steps : List Step) → map (line_of_step vars) steps ≡ [] → steps ≡ []
no_steps vars [] e = refl
no_steps vars (step ∷ steps) e = absurd (let bad : line_of_step vars step ∷ map (line_of_step vars) steps ≡ [] = e in cc)

-- a search that ended at once, as a proof
named_proof : (vars : List Variable) (proof : Proof) (log : Log) (n : ℕ) → log_of vars proof ≡ log → log.last ≡ Some (n ∷ []) → log.lines ≡ [] → NamesEmptyClause n (Refuted proof)
named_proof vars proof log n same last none =
    let steps = no_steps vars proof.steps (ap (λ (l : Log). l.lines) same ∙ none) in
    let hints : proof.last ≡ Some (n ∷ []) = ap (λ (l : Log). l.last) same ∙ last in
    λ i. Refuted (record { steps = steps i; last = hints i })

-- how a search ended at once that had no line before
pub at_once_from : (old new : Problem) (ending : Ending) → EndsAtOnce old new ending → SameProblem old new → old.log.lines ≡ [] → IsAtOnce new ending
at_once_from old new ending at same none n first =
    let end = at n (subst (λ cs. IsFirstEmpty cs n) same.clauses first) in
    (end.0, (end.1.0, end.1.1 ∙ none))

-- ---- what the end says of the universe's shape and level

module _ (version : Version) (g : Geometry) (law : IsGrid g) (u : Levels) (k : ℕ) (s : Search) (ending : Ending) (e : IsEnded g u k s ending) (formula : IsCountedFormula version g u.shape u.level u.vars s.solver.vars s.solver.clauses) where
  -- the layers of a model that leaves no hole up to a level
  pub spells_up_to : (values : List Bool) → IsModel s.solver.vars s.solver.clauses values → (layers : Layers) → Spells g u.shape layers.layers (chosen_layers (assignment_of values) u.vars u.level)
      → (m : ℕ) → m ≤ u.level → IsFreeUpTo g u m values → SpellsUpTo g u.shape u.level m layers
  spells_up_to values model layers spelled m low free =
      let v = assignment_of values in
      let tiles = chosen_layers v u.vars u.level in
      let long : length tiles ≡ length layers.layers = AllZip-long (λ (layer : List Iso) (placed : List (List Cell)). AllZip (λ by tile. IsLeastIsometry g u.shape tile by) layer placed) layers.layers tiles spelled.isometries in
      record {
        count = sym long ∙ length-map (range_with_len 1 u.level) (chosen_layer v u.vars) ∙ length-range_with_len 1 u.level;
        tiles = tiles;
        spelled = spelled;
        coronas = models_are_coronas version g u.shape u.level u.vars s.solver.vars s.solver.clauses v law e.polyform e.some formula model.satisfies;
        free = subst (StaysHoleFree g (u.shape ∷ [])) (sym (take-map-range_with_len (chosen_layer v u.vars) 1 u.level m low)) free;
      }

  abbrev proof : Proof
  proof = proof_of s.solver.log s.cuts

  same : log_of u.vars proof ≡ s.solver.log
  same = log_of_proof u.vars s.solver.log s.cuts e.search.given

  lawful : All (IsLawfulStep g u.shape u.level u.vars) proof.steps
  lawful = steps_each (IsCutUpTo g u k) (IsLawfulStep g u.shape u.level u.vars) (λ clause hints. tt) (λ cut c. c.lawful) s.solver.log.lines s.cuts e.search.lawful

  up_to : HasCutsUpTo k proof
  up_to = steps_each (IsCutUpTo g u k) (IsStepUpTo k) (λ clause hints. tt) (λ cut c. c.up_to) s.solver.log.lines s.cuts e.search.lawful

  module _ (size : ℕ) (fits : formula_size s.solver.clauses ≤ size) where
    -- lines that refute, or are spent, as steps
    refutes_coronas : Refutes s.solver.vars s.solver.clauses (log_of u.vars proof) → RefutesCoronas version g u.shape u.level size proof
    refutes_coronas r = record { vars = u.vars; count = s.solver.vars; clauses = s.solver.clauses; formula = formula; fits = fits; lawful = lawful; refutes = r }

    spent_on_coronas : IsSpent s.solver.vars s.solver.clauses s.turns (log_of u.vars proof) → IsSpentOnCoronas version g u.shape u.level s.turns size proof
    spent_on_coronas spent = record { vars = u.vars; count = s.solver.vars; clauses = s.solver.clauses; formula = formula; fits = fits; lawful = lawful; is_spent = spent }

    -- a log that refutes, as a proof
    pub refutes_up_to : Refutes s.solver.vars s.solver.clauses s.solver.log → RefutesUpTo version g u.shape u.level k size proof
    refutes_up_to r = record {
      refutes = refutes_coronas (subst (Refutes s.solver.vars s.solver.clauses) (sym same) r);
      new_steps = record {
        vars = u.vars;
        count = s.solver.vars;
        clauses = s.solver.clauses;
        formula = formula;
        new_lines = subst (λ (log : Log). LinesAreNew s.solver.clauses log.lines) (sym same) e.search.valid.fresh;
      };
      cuts = up_to;
    }

    -- a log that is spent, as a proof
    pub spent_up_to : IsSpent s.solver.vars s.solver.clauses s.solver.turns s.solver.log × NoFinal (clauses_with s.solver.clauses s.solver.log.lines) → IsSpentUpTo version g u.shape u.level k s.turns size proof
    spent_up_to (spent, none) = record {
      is_spent = spent_on_coronas (subst (λ n. IsSpent s.solver.vars s.solver.clauses n (log_of u.vars proof)) e.search.turns_are (subst (IsSpent s.solver.vars s.solver.clauses s.solver.turns) (sym same) spent));
      open_still = record {
        vars = u.vars;
        count = s.solver.vars;
        clauses = s.solver.clauses;
        formula = formula;
        no_final = subst (λ (log : Log). NoFinal (clauses_with s.solver.clauses log.lines)) (sym same) none;
        few = subst (λ n. n ≤ 3 ^ s.solver.vars) (spent.used ∙ e.search.turns_are) (few_lines s.solver.vars s.solver.clauses s.solver.log.lines e.search.valid.hold e.search.valid.fresh);
      };
      cuts = up_to;
    }

  -- what is named where a clause is empty
  names : (answer : LevelAnswer) → ((n : ℕ) → IsFirstEmpty s.solver.clauses n → NamesEmptyClause n answer) → NamesEmptyClauses version g u.shape u.level answer
  names answer named = record { vars = u.vars; count = s.solver.vars; clauses = s.solver.clauses; formula = formula; named = named }

  -- an end that isn't a refutation has no empty clause
  pub names_none : ¬ (ending ≡ Refuted-end) → (answer : LevelAnswer) → NamesEmptyClauses version g u.shape u.level answer
  names_none other answer = names answer (λ n first. absurd (other (e.at_once n first).0))

  -- a refutation that came at once
  pub names_first : NamesEmptyClauses version g u.shape u.level (Refuted proof)
  names_first = names (Refuted proof) (λ n first. let end = e.at_once n first in named_proof u.vars proof s.solver.log n same end.1.0 end.1.1)

-- ---- what it says of the shape and the level that the search was for

-- a formula that fits isn't too large
never_too_large : (version : Version) (g : Geometry) → IsGrid g → (shape : List Cell) → IsPolyform g shape → (j : ℕ) (vars : List Variable) (count : ℕ) (clauses : List (List Lit)) → IsCountedFormula version g shape j vars count clauses → (size : ℕ) → formula_size clauses ≤ size → ¬ IsTooLarge version g shape j size
never_too_large version g law shape form j vars count clauses formula size fits large =
    let above = (too_large_exactly version g law shape form j vars count clauses formula size).0 large in
    absurd (omega (arith, above, fits))

module _ (version : Version) (g : Geometry) (law : IsGrid g) (shape : List Cell) (j k turns size : ℕ) (u : Levels) (free_levels : ℕ) (s : Search) (ending : Ending) (e : IsEnded g u free_levels s ending) (under : IsUnder version g shape j k turns size u free_levels s) where
  -- what is shown of the universe and its search holds of the shape and the level that they are of
  under_that : (P : List Cell → ℕ → ℕ → ℕ → Type 0) → P u.shape u.level free_levels s.turns → P shape j k turns
  under_that P h =
      subst (λ cells. P cells j k turns) under.shape_is (subst (λ n. P u.shape n k turns) under.level_is
      (subst (λ n. P u.shape u.level n turns) under.free_is (subst (λ n. P u.shape u.level free_levels n) under.turns_are h)))

  pub fits_under : ¬ IsTooLarge version g shape j size
  fits_under large =
      under_that (λ cells n m t. ¬ IsTooLarge version g cells n size) (never_too_large version g law u.shape e.polyform u.level u.vars s.solver.vars s.solver.clauses under.formula size under.fits) large

  pub polyform_under : IsPolyform g shape
  polyform_under = subst (IsPolyform g) under.shape_is e.polyform

  pub level_under : 1 ≤ j
  level_under = subst (λ n. 1 ≤ n) under.level_is e.some

  abbrev pub Says : LevelAnswer → Type 0
  Says answer = IsAnswerUpTo version g shape j k turns size answer × NamesEmptyClauses version g shape j answer

  says : (answer : LevelAnswer) → IsAnswerUpTo version g u.shape u.level free_levels s.turns size answer → NamesEmptyClauses version g u.shape u.level answer → Says answer
  says answer is named = under_that (λ cells n m t. IsAnswerUpTo version g cells n m t size answer × NamesEmptyClauses version g cells n answer) (is, named)

  pub says_coronas : (values : List Bool) → ending ≡ Model values → (layers : Layers) → Spells g u.shape layers.layers (chosen_layers (assignment_of values) u.vars u.level) → Says (Coronas layers)
  says_coronas values is layers spelled =
      let ends = subst (IsEnding g u free_levels s.solver) is e.ends in
      let model = model_first s.solver.vars s.solver.clauses s.solver.log.lines values ends.0 in
      let other : ¬ (ending ≡ Refuted-end) = λ r. let bad : Model values ≡ Refuted-end = sym is ∙ r in cc in
      says (Coronas layers) (spells_up_to version g law u free_levels s ending e under.formula values model layers spelled free_levels e.levels ends.1) (names_none version g law u free_levels s ending e under.formula other (Coronas layers))

  pub says_refuted : ending ≡ Refuted-end → (proof : Proof) → proof ≡ proof_of s.solver.log s.cuts → Says (Refuted proof)
  says_refuted is proof proof_is =
      subst (λ p. Says (Refuted p)) (sym proof_is)
      (says (Refuted (proof_of s.solver.log s.cuts)) (refutes_up_to version g law u free_levels s ending e under.formula size under.fits (subst (IsEnding g u free_levels s.solver) is e.ends)) (names_first version g law u free_levels s ending e under.formula))

  pub says_spent : ending ≡ Spent-end → (proof : Proof) → proof ≡ proof_of s.solver.log s.cuts → Says (Spent proof)
  says_spent is proof proof_is =
      let other : ¬ (ending ≡ Refuted-end) = λ r. let bad : Spent-end ≡ Refuted-end = sym is ∙ r in cc in
      let made = Spent (proof_of s.solver.log s.cuts) in
      subst (λ p. Says (Spent p)) (sym proof_is)
      (says made (spent_up_to version g law u free_levels s ending e under.formula size under.fits (subst (IsEnding g u free_levels s.solver) is e.ends)) (names_none version g law u free_levels s ending e under.formula other made))

-- a refutation with holes forbidden has a cut where coronas with holes exist
pub has_cut : (version : Version) (g : Geometry) (shape : List Cell) (j size : ℕ) (proof : Proof) (layers : Layers) → RefutesLevel version g shape j true size proof → SpellsCoronas g shape j false layers → ¬ HasNoCut proof
has_cut version g shape j size proof layers r s none =
    let long : length s.tiles ≡ length layers.layers = AllZip-long (λ (layer : List Iso) (placed : List (List Cell)). AllZip (λ by tile. IsLeastIsometry g shape tile by) layer placed) layers.layers s.tiles s.spelled.isometries in
    r.none none (s.tiles, long ∙ s.count, s.coronas)

-- where nothing is known of coronas with holes, a refutation is without cuts
none_known : {A : Type 0} (g : Geometry) (shape : List Cell) (j : ℕ) (answer : LevelAnswer) → (A → RefutesWithoutCut answer) → (holed : Option Layers) → MatchOption holed A (SpellsCoronas g shape j false) → MatchOption holed (RefutesWithoutCut answer) (SpellsCoronas g shape j false)
none_known g shape j answer f None h = f h
none_known g shape j answer f (Some layers) h = h

-- the answer with holes forbidden and the coronas with holes that are known, as one answer
module _ (version : Version) (g : Geometry) (law : IsGrid g) (shape : List Cell) (j turns size : ℕ) (u : Levels) (free_levels : ℕ) (s : Search) (ending : Ending) (e : IsEnded g u free_levels s ending) (under : IsUnder version g shape j j turns size u free_levels s)
    (answer : LevelAnswer) (holed : Option Layers) (wall : WallAnswer) where
  pub wall_answer : {A : Type 0} → (A → RefutesWithoutCut answer) → MatchOption holed A (SpellsCoronas g u.shape u.level false) → level_answer wall ≡ answer →
      (IsLevelAnswer version g shape j true turns size answer → MatchOption holed (RefutesWithoutCut answer) (SpellsCoronas g shape j false) → ShowsHoles g shape j wall) →
      Says version g law shape j j turns size u free_levels s ending e under answer → IsLevelAnswer version g shape j true turns size (level_answer wall) × NamesEmptyClauses version g shape j (level_answer wall) × ShowsHoles g shape j wall
  wall_answer {A} none known same shows says =
      let known_there : MatchOption holed A (SpellsCoronas g shape j false) =
      under_that version g law shape j j turns size u free_levels s ending e under (λ cells n m t. MatchOption holed A (SpellsCoronas g cells n false)) known in
      let form = polyform_under version g law shape j j turns size u free_levels s ending e under in
      let some = level_under version g law shape j j turns size u free_levels s ending e under in
      let level = level_answer_of g shape j true version law form some turns size answer says.0 in
      let both = subst (λ a. IsLevelAnswer version g shape j true turns size a × NamesEmptyClauses version g shape j a) (sym same) (level, says.1) in
      (both.0, both.1, shows level (none_known g shape j answer none holed known_there))

-- what holds of the value of an option
pub at_some : {X : Type 0} (P : X → Type 0) (o : Option X) (x : X) → o ≡ Some x → IfSome o P → P x
at_some P o x is h = subst (λ k. IfSome k P) is h
