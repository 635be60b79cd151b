-- What a formula is made from.
use Rattle.std.specs.Prelude.{◌≡◌, ℕ, ◌<◌, ◌^◌, List, length}
use Rattle.heesch_grid.specs.declared.Cell.{Cell}
use Rattle.heesch_grid.specs.Geometry.{Geometry}
use Rattle.heesch_place.specs.Universes.{Levels, IsUniverseOf}
use Rattle.heesch_encode.specs.declared.around.TurnedRing.{TurnedRing}
use Rattle.heesch_encode.specs.Rings.{AreRings}

-- the universe is that of the shape and the level, of fewer than 2^31 variables, and the rings are those of the shape
pub record IsPlan (g : Geometry) (u : Levels) (shape : List Cell) (level : ℕ) (rings : List TurnedRing) : Type 0 where
  pub universe : IsUniverseOf g u
  pub shape_is : u.shape ≡ shape
  pub level_is : u.level ≡ level
  pub few : length u.vars < 2 ^ 31
  pub rings_are : AreRings g u.shape rings
