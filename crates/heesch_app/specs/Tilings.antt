-- The plain tilings of a list of shapes.
use Rattle.std.specs.Prelude.{◌≡◌, ◌<◌, ℕ, List, Option, length, slice_index_or}
use Rattle.heesch_grid.specs.declared.Cell.{Cell}
use Rattle.heesch_grid.specs.Geometry.{Geometry}
use Rattle.heesch_grid.specs.Tiling.{IsPlain}
use Rattle.heesch_tiling.specs.declared.found.Plain.{Plain}
use Rattle.heesch_tiling.specs.PlainAnswer.{answered}

-- there is one answer for each shape, and it is the shape's plain tiling
pub record ArePlain (g : Geometry) (shapes : List (List Cell)) (tilings : List (Option Plain)) : Type 0 where
  pub as_many : length tilings ≡ length shapes
  pub each : (i : ℕ) (cells : List Cell) (tiling : Option Plain) → i < length shapes → IsPlain g (slice_index_or shapes i cells) (answered (slice_index_or tilings i tiling))
