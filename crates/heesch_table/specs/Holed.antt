-- Whether a set of cells has a hole.
use Rattle.std.specs.Prelude.{Bool, true, false, List}
use Rattle.heesch_grid.specs.declared.Cell.{Cell}
use Rattle.heesch_grid.specs.Geometry.{Geometry}
use Rattle.heesch_grid.specs.Hole.{IsHoleFree}

-- the answer says whether the set has a hole
abbrev pub IsHoled : Geometry → List Cell → Bool → Type 0
IsHoled g cells true = ¬ IsHoleFree g cells
IsHoled g cells false = IsHoleFree g cells
