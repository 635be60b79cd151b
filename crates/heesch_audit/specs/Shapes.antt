-- Canonical shapes.
use Rattle.std.specs.Prelude.{◌≡◌, ◌≤◌, ℕ, true, List}
use Rattle.heesch_grid.specs.declared.Cell.{Cell}
use Rattle.heesch_grid.specs.Cells.{has}
use Rattle.heesch_grid.specs.Geometry.{Geometry}
use Rattle.heesch_grid.specs.Polyform.{IsCanonicalListOf, IsFreePolyform}
use Rattle.heesch_grid.specs.Vectors.{IsWithin}
use Rattle.heesch_shape.specs.Walks.{IsShape}

-- the cells are the canonical list of a polyform of 1 to 32 cells
abbrev pub AreCanonical : Geometry → List Cell → Type 0
AreCanonical g cells = (n : ℕ) × (1 ≤ n) × (n ≤ 32) × IsFreePolyform g n cells

-- the shape is its own canonical list; its cells lie near 0
pub record IsCanonicalShape (g : Geometry) (shape : List Cell) : Type 0 where
  pub is_shape : IsShape g shape
  pub canonical : IsCanonicalListOf g shape shape
  pub near : (c : Cell) → has shape c ≡ true → IsWithin 100000 c
