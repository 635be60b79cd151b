-- What a judged proof, or judged layers, say of the level.
use Rattle.std.proofs.Common.{◌≡◌, sym, ap, subst, ◌∙◌, ℕ, ◌-◌, ◌≤◌, ◌^◌, Bool, true, Some, List, [], ◌∷◌, ◌++◌, length, All, arith, append-nil, inl, inr, false}
use Rattle.std.specs.Prelude.{◌↔◌, IsTrue}
use Rattle.std.specs.List.{AllZip}
use Rattle.std.proofs.lemmas.List.Elements.{All-nil, All-cons, All-contains, All-weaker, Contains-append_left}
use Rattle.std.proofs.lemmas.Slice.Zip.{AllZip-long}
use Rattle.heesch_grid.specs.declared.Cell.{Cell}
use Rattle.heesch_grid.specs.declared.isometries.Iso.{Iso}
use Rattle.heesch_grid.specs.Clauses.{formula_size}
use Rattle.heesch_grid.specs.Corona.{HasCoronas}
use Rattle.heesch_grid.specs.Geometry.{Geometry, IsGrid}
use Rattle.heesch_grid.specs.Placement.{IsLeastIsometry}
use Rattle.heesch_grid.specs.Polyform.{IsPolyform}
use Rattle.heesch_grid.proofs.ListFacts.{All-from_members}
use Rattle.heesch_cnf.specs.declared.literal.Lit.{Lit}
use Rattle.heesch_cnf.specs.declared.log.Log.{Log}
use Rattle.heesch_cnf.specs.declared.version.Version.TheVariants.{Two}
use Rattle.heesch_cnf.specs.Lines.{IsNumber, after_hint, clauses_of, clauses_with, numbered, reaches_conflict, refuting}
use Rattle.heesch_cnf.specs.Clauses.{left_of}
use Rattle.heesch_cnf.specs.Literals.{Values}
use Rattle.heesch_cnf.proofs.Lists.{Contains-none}
use Rattle.heesch_trail.specs.Fixpoint.{IsFixpoint, IsSettled}
use Rattle.heesch_cdcl.specs.Empty.{IsFirstEmpty}
use Rattle.heesch_cdcl.proofs.Counting.{few_lines}
use Rattle.heesch_cdcl.proofs.Newness.{no_final}
use Rattle.heesch_cert.specs.declared.entry.Layers.{Layers}
use Rattle.heesch_cert.specs.declared.proof.Proof.{Proof}
use Rattle.heesch_cert.specs.declared.proof.Step.{Step}
use Rattle.heesch_cert.specs.declared.proof.Step.TheVariants.{Learn, Cut}
use Rattle.heesch_cert.specs.Proofs.{HasNoCut, IsLawfulStep, IsLearnStep, RefutesCoronas, log_of}
use Rattle.heesch_cert.proofs.CutSound.{refuted_means_none}
use Rattle.heesch_place.specs.Universes.{Levels}
use Rattle.heesch_levels.specs.declared.answer.LevelAnswer.{LevelAnswer}
use Rattle.heesch_levels.specs.declared.answer.LevelAnswer.TheVariants.{Coronas, Refuted, Spent, TooLarge}
use Rattle.heesch_levels.specs.declared.answer.WallAnswer.{WallAnswer}
use Rattle.heesch_levels.specs.declared.answer.WallAnswer.TheVariants.{Coronas as WallCoronas, Refuted as WallRefuted, Holed as WallHoled, Spent as WallSpent, TooLarge as WallTooLarge}
use Rattle.heesch_levels.specs.Wall.{ShowsHoles, level_answer}
use Rattle.heesch_levels.specs.Answer.{IsLevelAnswer, NamesEmptyClause, NamesEmptyClauses}
use Rattle.heesch_levels.specs.UpTo.{HasCutsUpTo, IsAnswerUpTo, IsSpentUpTo, IsStepUpTo, RefutesUpTo, SpellsUpTo}
use Rattle.heesch_levels.proofs.LevelFacts.{has_cut}
use Rattle.heesch_levels.proofs.UpToFacts.{level_answer_of, spells_level}
use Rattle.heesch_numbers.specs.Sourced.{Sourced}
use Rattle.heesch_logs.specs.Admitted.{IsAdmitted, IsAdmittedStep, IsLogOf}
use Rattle.heesch_judge.specs.Closed.{IsSpentOpen, RefutesAnew}
use Rattle.heesch_judge.specs.Judged.{IsJudgedLevel, IsJudgedWall, IsRefutation, IsSourceOf, IsSpentProof}
use Rattle.heesch_logs.proofs.Admitting.{lawful_steps}
use Rattle.heesch_logs.proofs.Equal.{refused}

-- ---- admitted steps

step_up_to : (g : Geometry) (u : Levels) (k : ℕ) (step : Step) → IsAdmittedStep g u k step → IsStepUpTo k step
step_up_to g u k (Learn clause hints) a = tt
step_up_to g u k (Cut cut) a = a.up_to

module _ (g : Geometry) (shape : List Cell) (s : Sourced) (is : IsSourceOf g shape s) (k : ℕ) (proof : Proof) where
  lawful : IsAdmitted g s.universe k proof → All (IsLawfulStep g shape s.universe.level s.universe.vars) proof.steps
  lawful a = subst (λ cells. All (IsLawfulStep g cells s.universe.level s.universe.vars) proof.steps) is.shape_is (lawful_steps g s.universe k proof a)

  cuts : IsAdmitted g s.universe k proof → HasCutsUpTo k proof
  cuts a = All-weaker (IsAdmittedStep g s.universe k) (IsStepUpTo k) (step_up_to g s.universe k) proof.steps a

  -- a refutation
  pub refutation_up_to : IsRefutation g s k proof → (size : ℕ) → formula_size s.formula.clauses ≤ size → RefutesUpTo Two g shape s.universe.level k size proof
  refutation_up_to r size fits = record {
    refutes = record { vars = s.universe.vars; count = s.formula.vars; clauses = s.formula.clauses; formula = is.formula; fits = fits; lawful = lawful r.admitted; refutes = r.refutes.refutes };
    new_steps = record { vars = s.universe.vars; count = s.formula.vars; clauses = s.formula.clauses; formula = is.formula; new_lines = r.refutes.new_lines };
    cuts = cuts r.admitted;
  }

  -- a spent proof
  pub spent_up_to : (turns : ℕ) → IsSpentProof g s k turns proof → (size : ℕ) → formula_size s.formula.clauses ≤ size → IsSpentUpTo Two g shape s.universe.level k turns size proof
  spent_up_to turns r size fits =
      let spent = r.is_spent.is_spent in
      let still = r.is_spent.open_still in
      record {
        is_spent = record { vars = s.universe.vars; count = s.formula.vars; clauses = s.formula.clauses; formula = is.formula; fits = fits; lawful = lawful r.admitted; is_spent = spent };
        open_still = record {
          vars = s.universe.vars;
          count = s.formula.vars;
          clauses = s.formula.clauses;
          formula = is.formula;
          no_final = λ hints final. no_final still.0 (clauses_with s.formula.clauses (log_of s.universe.vars proof).lines) hints still.1 final;
          few = subst (λ n. n ≤ 3 ^ s.formula.vars) spent.used (few_lines s.formula.vars s.formula.clauses (log_of s.universe.vars proof).lines spent.lines spent.new_lines);
        };
        cuts = cuts r.admitted;
      }

-- ---- empty clauses

-- an empty clause isn't settled
empty_unsettled : (values : Values) → ¬ IsSettled values []
empty_unsettled values (inl t) = Contains-none t.0 t.1.0
empty_unsettled values (inr two) = Contains-none two.one two.has_one

settled_first : (values : Values) (xs ys : List (List Lit)) → IsFixpoint values (xs ++ ys) → IsFixpoint values xs
settled_first values xs ys h = All-from_members (IsSettled values) xs (λ c m. All-contains (IsSettled values) (xs ++ ys) c h (Contains-append_left xs ys c m))

-- the hint of an empty clause refutes
empty_conflict : (clauses : List (List Lit)) (n : ℕ) → numbered clauses n ≡ [] → reaches_conflict clauses (refuting []) (n ∷ []) ≡ true
empty_conflict clauses n none = ap (λ c. after_hint (refuting []) (left_of (refuting []) c) true (λ l. false)) none

module _ (g : Geometry) (shape : List Cell) (s : Sourced) (is : IsSourceOf g shape s) where
  -- what is named where a clause is empty
  pub names : (answer : LevelAnswer) → ((n : ℕ) → IsFirstEmpty s.formula.clauses n → NamesEmptyClause n answer) → NamesEmptyClauses Two g shape s.universe.level answer
  names answer named = record { vars = s.universe.vars; count = s.formula.vars; clauses = s.formula.clauses; formula = is.formula; named = named }

  -- where a proof is spent and leaves the formula open, no clause is empty
  pub names_spent : (k turns : ℕ) (proof : Proof) → IsSpentProof g s k turns proof → NamesEmptyClauses Two g shape s.universe.level (Spent proof)
  names_spent k turns proof r = names (Spent proof) (λ n first. absurd (none n first))
    where
      none : (n : ℕ) → IsFirstEmpty s.formula.clauses n → ⊥
      none n first =
          let still = r.is_spent.open_still in
          let settled = settled_first still.0 s.formula.clauses (clauses_of (log_of s.universe.vars proof).lines) still.1 in
          let low = first.number.0 in
          let high = first.number.1 in
          empty_unsettled still.0 (subst (IsSettled still.0) first.nothing (settled (n - 1) [] (omega (arith, low, high))))

  -- where an empty clause is named, there are no coronas
  no_coronas : IsGrid g → IsPolyform g shape → 1 ≤ s.universe.level → (n : ℕ) → IsFirstEmpty s.formula.clauses n → ¬ HasCoronas g shape s.universe.level
  no_coronas law form some n first =
      let proof : Proof = record { steps = []; last = Some (n ∷ []) } in
      let refutes : RefutesCoronas Two g shape s.universe.level (formula_size s.formula.clauses) proof = record {
        vars = s.universe.vars;
        count = s.formula.vars;
        clauses = s.formula.clauses;
        formula = is.formula;
        fits = omega arith;
        lawful = All-nil (IsLawfulStep g shape s.universe.level s.universe.vars);
        refutes = record {
          lines = λ i below. absurd (omega (arith, below));
          final = record { numbers = All-cons (IsNumber (s.formula.clauses ++ [])) n [] (numbered_still first.number) (All-nil (IsNumber (s.formula.clauses ++ []))); conflict = empty_conflict (s.formula.clauses ++ []) n (nothing_still first.nothing) };
        };
      } in
      (refuted_means_none Two g shape s.universe.level (formula_size s.formula.clauses) proof law form some refutes).1 (All-nil IsLearnStep)
    where
      same : s.formula.clauses ++ [] ≡ s.formula.clauses
      same = append-nil s.formula.clauses

      numbered_still : IsNumber s.formula.clauses n → IsNumber (s.formula.clauses ++ []) n
      numbered_still number = subst (λ cs. IsNumber cs n) (sym same) number

      nothing_still : numbered s.formula.clauses n ≡ [] → numbered (s.formula.clauses ++ []) n ≡ []
      nothing_still nothing = subst (λ cs. numbered cs n ≡ []) (sym same) nothing

  -- where there are coronas, no clause is empty
  pub names_coronas : IsGrid g → IsPolyform g shape → 1 ≤ s.universe.level → (k : ℕ) (layers : Layers) → SpellsUpTo g shape s.universe.level k layers → NamesEmptyClauses Two g shape s.universe.level (Coronas layers)
  names_coronas law form some k layers spells = names (Coronas layers) (λ n first. absurd (no_coronas law form some n first (spells.tiles, long ∙ spells.count, spells.coronas)))
    where
      long : length spells.tiles ≡ length layers.layers
      long = AllZip-long (λ (layer : List Iso) (placed : List (List Cell)). AllZip (λ by tile. IsLeastIsometry g shape tile by) layer placed) layers.layers spells.tiles spells.spelled.isometries

-- ---- what is told of a proof over the universe of a source

module _ (g : Geometry) (s : Sourced) (u : Levels) (same : u ≡ s.universe) (k : ℕ) (proof : Proof) where
  admitted_there : IsAdmitted g u k proof → IsAdmitted g s.universe k proof
  admitted_there a = subst (λ v. IsAdmitted g v k proof) same a

  log_there : (log : Log) → log ≡ log_of u.vars proof → log ≡ log_of s.universe.vars proof
  log_there log is = is ∙ ap (λ (v : Levels). log_of v.vars proof) same

  pub no_refutation : (¬ IsAdmitted g u k proof) → IsTrue false ↔ IsRefutation g s k proof
  no_refutation fails = refused (λ r. fails (subst (λ v. IsAdmitted g v k proof) (sym same) r.admitted))

  pub refutation_told : (log : Log) → IsLogOf g u k proof log → (told : Bool) → IsTrue told ↔ RefutesAnew s.formula.vars s.formula.clauses log → IsTrue told ↔ IsRefutation g s k proof
  refutation_told log is told tells = (
    (λ t. record { admitted = admitted_there is.0; refutes = subst (RefutesAnew s.formula.vars s.formula.clauses) (log_there log is.1) (tells.0 t) }),
    (λ r. tells.1 (subst (RefutesAnew s.formula.vars s.formula.clauses) (sym (log_there log is.1)) r.refutes)),
  )

  module _ (turns : ℕ) where
    pub no_spent_proof : (¬ IsAdmitted g u k proof) → IsTrue false ↔ IsSpentProof g s k turns proof
    no_spent_proof fails = refused (λ r. fails (subst (λ v. IsAdmitted g v k proof) (sym same) r.admitted))

    pub spent_told : (log : Log) → IsLogOf g u k proof log → (told : Bool) → IsTrue told ↔ IsSpentOpen s.formula.vars s.formula.clauses turns log → IsTrue told ↔ IsSpentProof g s k turns proof
    spent_told log is told tells =
        let P : Log → Type 0 = λ l. IsSpentOpen s.formula.vars s.formula.clauses turns l in (
          (λ t. record { admitted = admitted_there is.0; is_spent = subst P (log_there log is.1) (tells.0 t) }),
          (λ r. tells.1 (subst P (sym (log_there log is.1)) r.is_spent)),
        )

-- ---- what judged answers say

module _ (g : Geometry) (law : IsGrid g) (shape : List Cell) (form : IsPolyform g shape) (s : Sourced) (is : IsSourceOf g shape s) (some : 1 ≤ s.universe.level) (turns : ℕ) where
  -- of the level
  pub level_right : (k : ℕ) (answer : LevelAnswer) → IsJudgedLevel g shape s k turns answer → (size : ℕ) → formula_size s.formula.clauses ≤ size → IsAnswerUpTo Two g shape s.universe.level k turns size answer
  level_right k (Coronas layers) judged size fits = judged.1
  level_right k (Refuted proof) judged size fits = refutation_up_to g shape s is k proof judged.refutation size fits
  level_right k (Spent proof) judged size fits = spent_up_to g shape s is k proof turns judged size fits
  level_right k TooLarge judged size fits = absurd judged

  pub level_named : (k : ℕ) (answer : LevelAnswer) → IsJudgedLevel g shape s k turns answer → NamesEmptyClauses Two g shape s.universe.level answer
  level_named k (Coronas layers) judged = names_coronas g shape s is law form some k layers judged.1
  level_named k (Refuted proof) judged = names g shape s is (Refuted proof) judged.at_once
  level_named k (Spent proof) judged = names_spent g shape s is k turns proof judged
  level_named k TooLarge judged = absurd judged

  -- of the wall, as of the level with holes forbidden
  wall_level : (k : ℕ) (answer : WallAnswer) → IsJudgedWall g shape s k turns answer → IsJudgedLevel g shape s k turns (level_answer answer)
  wall_level k (WallCoronas layers) judged = judged
  wall_level k (WallRefuted proof) judged = judged.1
  wall_level k (WallHoled proof layers) judged = judged.1
  wall_level k (WallSpent proof) judged = judged
  wall_level k WallTooLarge judged = judged

  pub wall_named : (k : ℕ) (answer : WallAnswer) → IsJudgedWall g shape s k turns answer → NamesEmptyClauses Two g shape s.universe.level (level_answer answer)
  wall_named k answer judged = level_named k (level_answer answer) (wall_level k answer judged)

  as_level : (size : ℕ) (answer : LevelAnswer) → IsAnswerUpTo Two g shape s.universe.level s.universe.level turns size answer → IsLevelAnswer Two g shape s.universe.level true turns size answer
  as_level size answer a = level_answer_of g shape s.universe.level true Two law form some turns size answer a

  pub wall_right : (answer : WallAnswer) → IsJudgedWall g shape s s.universe.level turns answer → (size : ℕ) → formula_size s.formula.clauses ≤ size → IsLevelAnswer Two g shape s.universe.level true turns size (level_answer answer)
  wall_right answer judged size fits = as_level size (level_answer answer) (level_right s.universe.level (level_answer answer) (wall_level s.universe.level answer judged) size fits)

  -- a refutation beside coronas with holes has a cut
  pub wall_holes : (answer : WallAnswer) → IsJudgedWall g shape s s.universe.level turns answer → ShowsHoles g shape s.universe.level answer
  wall_holes (WallCoronas layers) judged = tt
  wall_holes (WallRefuted proof) judged = judged.0
  wall_holes (WallHoled proof layers) judged =
      let size : ℕ = formula_size s.formula.clauses in
      let coronas = spells_level g shape s.universe.level false layers judged.0.1 in
      let none = wall_right (WallHoled proof layers) judged size (omega arith) in
      (has_cut Two g shape s.universe.level size proof layers none coronas, coronas)
  wall_holes (WallSpent proof) judged = tt
  wall_holes WallTooLarge judged = tt
