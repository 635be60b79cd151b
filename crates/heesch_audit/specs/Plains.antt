-- What the plain tiling of a shape, or that it has none, says of a tiling.
use Rattle.std.specs.Prelude.{◌≡◌, ◌≤◌, ◌<◌, Option, Some, None, [], ◌∷◌, ⊤}
use Rattle.heesch_grid.specs.Geometry.{Geometry}
use Rattle.heesch_grid.specs.Tiling.{Plain, Translation, HalfTurn, no_move, half_turned}
use Rattle.heesch_cert.specs.declared.limits.Limits.{Limits}
use Rattle.heesch_cert.specs.declared.tiling.Tiling.{Tiling}

-- there is none, or the limit on domains doesn't admit it
abbrev pub IsNoneAdmitted : Limits → Option Plain → Type 0
IsNoneAdmitted limits None = ⊤
IsNoneAdmitted limits (Some (Translation t)) = ⊥
IsNoneAdmitted limits (Some (HalfTurn t da db)) = limits.domain < 2

-- it is by translations, and the tiling is written so
abbrev pub IsByTranslation : Tiling → Option Plain → Type 0
IsByTranslation tiling None = ⊥
IsByTranslation tiling (Some (Translation t)) = (t ≡ tiling.triple) × (tiling.places ≡ no_move ∷ [])
IsByTranslation tiling (Some (HalfTurn t da db)) = ⊥

-- it is by half-turns and admitted, and the tiling is written so
abbrev pub IsByHalfTurn : Geometry → Limits → Tiling → Option Plain → Type 0
IsByHalfTurn g limits tiling None = ⊥
IsByHalfTurn g limits tiling (Some (Translation t)) = ⊥
IsByHalfTurn g limits tiling (Some (HalfTurn t da db)) = (2 ≤ limits.domain) × (t ≡ tiling.triple) × (tiling.places ≡ no_move ∷ half_turned g da db ∷ [])
