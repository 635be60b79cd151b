-- What the answers at one level say, and sources of the second corona formula.
use Rattle.std.specs.Prelude.{◌≡◌, ◌≢◌, ◌≤◌, ℕ, true, List}
use Rattle.heesch_grid.specs.declared.Cell.{Cell}
use Rattle.heesch_grid.specs.Clauses.{formula_size}
use Rattle.heesch_grid.specs.Geometry.{Geometry}
use Rattle.heesch_cnf.specs.declared.version.Version.{Version}
use Rattle.heesch_cert.specs.Proofs.{IsTooLarge}
use Rattle.heesch_numbers.specs.Sourced.{Sourced}
use Rattle.heesch_judge.specs.Judged.{IsSourceOf}
use Rattle.heesch_levels.specs.Answer.{IsLevelAnswer, NamesEmptyClauses}
use Rattle.heesch_levels.specs.UpTo.{IsAnswerUpTo}
use Rattle.heesch_levels.specs.Wall.{ShowsHoles, level_answer}
use Rattle.heesch_levels.specs.declared.answer.LevelAnswer.{LevelAnswer}
use Rattle.heesch_levels.specs.declared.answer.LevelAnswer.TheVariants.{TooLarge}
use Rattle.heesch_levels.specs.declared.answer.WallAnswer.{WallAnswer}
use Rattle.heesch_levels.specs.declared.answer.WallAnswer.TheVariants.{TooLarge as WallTooLarge}

-- the source is that of the second corona formula of the shape and the level, which has at most `size` literals
pub record HasSource (g : Geometry) (shape : List Cell) (j size : ℕ) (s : Sourced) : Type 0 where
  pub source : IsSourceOf g shape s
  pub level : s.universe.level ≡ j
  pub fits : formula_size s.formula.clauses ≤ size

-- the answer is right where holes are forbidden at the levels 1 to k: TooLarge exactly where the formula is, and at once where a clause is empty
pub record SaysLevel (version : Version) (g : Geometry) (shape : List Cell) (j k turns size : ℕ) (answer : LevelAnswer) : Type 0 where
  pub right : IsAnswerUpTo version g shape j k turns size answer
  pub too_large : IsTooLarge version g shape j size → answer ≡ TooLarge
  pub at_once : answer ≢ TooLarge → NamesEmptyClauses version g shape j answer

-- the answer is right where holes are forbidden at each level, and shows whether there are coronas with holes
pub record SaysWall (version : Version) (g : Geometry) (shape : List Cell) (j turns size : ℕ) (answer : WallAnswer) : Type 0 where
  pub right : IsLevelAnswer version g shape j true turns size (level_answer answer)
  pub holes : ShowsHoles g shape j answer
  pub too_large : IsTooLarge version g shape j size → answer ≡ WallTooLarge
  pub at_once : answer ≢ WallTooLarge → NamesEmptyClauses version g shape j (level_answer answer)
