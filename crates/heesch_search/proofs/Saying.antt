-- What answers say, from what each clause says.
use Rattle.std.proofs.Common.{◌≡◌, sym, subst, ℕ, ◌≤◌, List, true, arith}
use Rattle.std.specs.Prelude.{◌≢◌, Option, Some, None, Result, Ok, Err, IfOk, IfSome}
use Rattle.heesch_grid.specs.declared.Cell.{Cell}
use Rattle.heesch_grid.specs.Clauses.{formula_size}
use Rattle.heesch_grid.specs.Geometry.{Geometry, IsGrid}
use Rattle.heesch_grid.specs.Polyform.{IsPolyform}
use Rattle.heesch_cnf.specs.declared.version.Version.{Version}
use Rattle.heesch_cnf.specs.declared.version.Version.TheVariants.{Two}
use Rattle.heesch_cert.specs.Formulas.{IsCountedFormula}
use Rattle.heesch_cert.specs.Proofs.{IsTooLarge}
use Rattle.heesch_cert.proofs.Exactly.{too_large_exactly}
use Rattle.heesch_numbers.specs.Sourced.{Sourced}
use Rattle.heesch_levels.specs.Answer.{IsLevelAnswer, NamesEmptyClauses}
use Rattle.heesch_levels.specs.UpTo.{IsAnswerUpTo}
use Rattle.heesch_levels.specs.Wall.{ShowsHoles, level_answer}
use Rattle.heesch_levels.specs.declared.answer.LevelAnswer.{LevelAnswer}
use Rattle.heesch_levels.specs.declared.answer.LevelAnswer.TheVariants.{TooLarge}
use Rattle.heesch_levels.specs.declared.answer.WallAnswer.{WallAnswer}
use Rattle.heesch_levels.specs.declared.answer.WallAnswer.TheVariants.{TooLarge as WallTooLarge}
use Rattle.heesch_search.specs.Said.{HasSource, SaysLevel, SaysWall}

module _ (version : Version) (g : Geometry) (shape : List Cell) (j turns size : ℕ) {E : Type 0} where
  -- three clauses on one answer
  pub says_level : (k : ℕ) (result : Result LevelAnswer E) → IfOk result (IsAnswerUpTo version g shape j k turns size)
      → IfOk result (λ answer. IsTooLarge version g shape j size → answer ≡ TooLarge)
      → IfOk result (λ answer. answer ≢ TooLarge → NamesEmptyClauses version g shape j answer)
      → IfOk result (SaysLevel version g shape j k turns size)
  says_level k (Ok answer) right too_large at_once = record { right = right; too_large = too_large; at_once = at_once }
  says_level k (Err e) right too_large at_once = tt

  pub says_wall : (result : Result WallAnswer E) → IfOk result (λ answer. IsLevelAnswer version g shape j true turns size (level_answer answer))
      → IfOk result (ShowsHoles g shape j)
      → IfOk result (λ answer. IsTooLarge version g shape j size → answer ≡ WallTooLarge)
      → IfOk result (λ answer. answer ≢ WallTooLarge → NamesEmptyClauses version g shape j (level_answer answer))
      → IfOk result (SaysWall version g shape j turns size)
  says_wall (Ok answer) right holes too_large at_once = record { right = right; holes = holes; too_large = too_large; at_once = at_once }
  says_wall (Err e) right holes too_large at_once = tt

module _ (g : Geometry) (law : IsGrid g) (shape : List Cell) (form : IsPolyform g shape) (j size : ℕ) (s : Sourced) (has : HasSource g shape j size s) where
  formula : IsCountedFormula Two g shape j s.universe.vars s.formula.vars s.formula.clauses
  formula = subst (λ n. IsCountedFormula Two g shape n s.universe.vars s.formula.vars s.formula.clauses) has.level has.source.formula

  -- a formula with a source isn't too large
  pub not_too_large : ¬ IsTooLarge Two g shape j size
  not_too_large large =
      let above = (too_large_exactly Two g law shape form j s.universe.vars s.formula.vars s.formula.clauses formula size).0 large in
      let fits = has.fits in
      absurd (omega (arith, above, fits))

  -- what the judge finds true of the source's level is right at this level
  pub judged_level_says : (k turns : ℕ) (answer : LevelAnswer) → ((size : ℕ) → formula_size s.formula.clauses ≤ size → IsAnswerUpTo Two g shape s.universe.level k turns size answer)
      → NamesEmptyClauses Two g shape s.universe.level answer → SaysLevel Two g shape j k turns size answer
  judged_level_says k turns answer right named = record {
    right = subst (λ n. IsAnswerUpTo Two g shape n k turns size answer) has.level (right size has.fits);
    too_large = λ large. absurd (not_too_large large);
    at_once = λ other. subst (λ n. NamesEmptyClauses Two g shape n answer) has.level named;
  }

  pub judged_wall_says : (turns : ℕ) (answer : WallAnswer) → ((size : ℕ) → formula_size s.formula.clauses ≤ size → IsLevelAnswer Two g shape s.universe.level true turns size (level_answer answer))
      → ShowsHoles g shape s.universe.level answer → NamesEmptyClauses Two g shape s.universe.level (level_answer answer) → SaysWall Two g shape j turns size answer
  judged_wall_says turns answer right holes named = record {
    right = subst (λ n. IsLevelAnswer Two g shape n true turns size (level_answer answer)) has.level (right size has.fits);
    holes = subst (λ n. ShowsHoles g shape n answer) has.level holes;
    too_large = λ large. absurd (not_too_large large);
    at_once = λ other. subst (λ n. NamesEmptyClauses Two g shape n (level_answer answer)) has.level named;
  }

  pub some_level_says : {E : Type 0} (k turns : ℕ) (result : Result (Option LevelAnswer) E)
      → IfOk result (λ found. IfSome found (λ answer. (size : ℕ) → formula_size s.formula.clauses ≤ size → IsAnswerUpTo Two g shape s.universe.level k turns size answer))
      → IfOk result (λ found. IfSome found (NamesEmptyClauses Two g shape s.universe.level)) → IfOk result (λ found. IfSome found (SaysLevel Two g shape j k turns size))
  some_level_says k turns (Ok None) right named = tt
  some_level_says k turns (Ok (Some answer)) right named = judged_level_says k turns answer right named
  some_level_says k turns (Err e) right named = tt

  pub some_wall_says : {E : Type 0} (turns : ℕ) (result : Result (Option WallAnswer) E)
      → IfOk result (λ found. IfSome found (λ answer. (size : ℕ) → formula_size s.formula.clauses ≤ size → IsLevelAnswer Two g shape s.universe.level true turns size (level_answer answer)))
      → IfOk result (λ found. IfSome found (ShowsHoles g shape s.universe.level))
      → IfOk result (λ found. IfSome found (λ answer. NamesEmptyClauses Two g shape s.universe.level (level_answer answer))) → IfOk result (λ found. IfSome found (SaysWall Two g shape j turns size))
  some_wall_says turns (Ok None) right holes named = tt
  some_wall_says turns (Ok (Some answer)) right holes named = judged_wall_says turns answer right holes named
  some_wall_says turns (Err e) right holes named = tt
