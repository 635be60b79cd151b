-- What the search for hole-free coronas says of those with holes.
use Rattle.std.specs.Prelude.{ℕ, false, List, ⊤}
use Rattle.heesch_grid.specs.declared.Cell.{Cell}
use Rattle.heesch_grid.specs.Geometry.{Geometry}
use Rattle.heesch_cert.specs.Proofs.{HasNoCut}
use Rattle.heesch_levels.specs.Answer.{SpellsCoronas}
use Rattle.heesch_levels.specs.declared.answer.LevelAnswer.{LevelAnswer}
use Rattle.heesch_levels.specs.declared.answer.LevelAnswer.TheVariants.{Coronas as FreeCoronas, Refuted as FreeRefuted, Spent as FreeSpent, TooLarge as FreeTooLarge}
use Rattle.heesch_levels.specs.declared.answer.WallAnswer.{WallAnswer}
use Rattle.heesch_levels.specs.declared.answer.WallAnswer.TheVariants.{Coronas, Refuted, Holed, Spent, TooLarge}

-- the answer as that of the level with holes forbidden
abbrev pub level_answer : WallAnswer → LevelAnswer
level_answer (Coronas layers) = FreeCoronas layers
level_answer (Refuted proof) = FreeRefuted proof
level_answer (Holed proof layers) = FreeRefuted proof
level_answer (Spent proof) = FreeSpent proof
level_answer TooLarge = FreeTooLarge

-- a refutation without cuts; or one with cuts, and j coronas of the shape with holes allowed
abbrev pub ShowsHoles : Geometry → List Cell → ℕ → WallAnswer → Type 0
ShowsHoles g shape j (Refuted proof) = HasNoCut proof
ShowsHoles g shape j (Holed proof layers) = (¬ HasNoCut proof) × SpellsCoronas g shape j false layers
ShowsHoles g shape j answer = ⊤

-- a refutation, if it is one, without cuts
abbrev pub RefutesWithoutCut : LevelAnswer → Type 0
RefutesWithoutCut (FreeRefuted proof) = HasNoCut proof
RefutesWithoutCut answer = ⊤
