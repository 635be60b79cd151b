-- Canonical shapes.
use Rattle.std.specs.Prelude.{◌≡◌, true, List}
use Rattle.heesch_grid.specs.declared.Cell.{Cell}
use Rattle.heesch_grid.specs.Cells.{has}
use Rattle.heesch_grid.specs.Geometry.{Geometry}
use Rattle.heesch_grid.specs.Polyform.{IsCanonicalListOf}
use Rattle.heesch_grid.specs.Vectors.{IsWithin}
use Rattle.heesch_shape.specs.Walks.{IsShape}

-- the shape is its own canonical list; its cells lie near 0
pub record IsCanonicalShape (g : Geometry) (shape : List Cell) : Type 0 where
  pub is_shape : IsShape g shape
  pub canonical : IsCanonicalListOf g shape shape
  pub near : (c : Cell) → has shape c ≡ true → IsWithin 100000 c
