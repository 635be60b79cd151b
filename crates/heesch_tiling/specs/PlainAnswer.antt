-- The answers of the code as those of the definition.
use Rattle.std.specs.Prelude.{Option, Some, None, List}
use Rattle.heesch_grid.specs.declared.Cell.{Cell}
use Rattle.heesch_grid.specs.Geometry.{Geometry}
use Rattle.heesch_grid.specs.Tiling as Grid
use Rattle.heesch_tiling.specs.declared.found.Plain.{Plain}
use Rattle.heesch_tiling.specs.declared.found.Plain.TheVariants.{Translation, HalfTurn}
use Rattle.heesch_tiling.specs.Search.{IsFirstByHalfTurn}

-- the definition's word for the code's answer
abbrev pub answered : Option Plain → Option Grid.Plain
answered None = None
answered (Some (Translation t)) = Some (Grid.Plain.Translation t)
answered (Some (HalfTurn t da db)) = Some (Grid.Plain.HalfTurn t da db)

-- the answer is the first tiling by half-turns
abbrev pub IsHalfTurnAnswer : Geometry → List Cell → Plain → Type 0
IsHalfTurnAnswer g xs (Translation t) = ⊥
IsHalfTurnAnswer g xs (HalfTurn t da db) = IsFirstByHalfTurn g xs t da db
