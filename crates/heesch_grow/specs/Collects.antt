-- Lists to which the cells beside a shape are added.
use Rattle.std.specs.Prelude.{◌≡◌, false, true, List}
use Rattle.std.specs.List.{IsDistinct}
use Rattle.heesch_grid.specs.declared.Cell.{Cell}
use Rattle.heesch_grid.specs.Cells.{same_cell, has}
use Rattle.heesch_grid.specs.Geometry.{Geometry}
use Rattle.heesch_grow.specs.Generator.{IsBeside}

-- the list has cells beside the shape, none twice
pub record IsCollection (g : Geometry) (shape cells : List Cell) : Type 0 where
  pub distinct : IsDistinct same_cell cells
  pub only : (d : Cell) → has cells d ≡ true → IsBeside g shape d

-- the new list is such a one, and has besides what the old one had all the cells with Q that are outside the shape
pub record Collects (g : Geometry) (shape : List Cell) (Q : Cell → Type 0) (old new : List Cell) : Type 0 where
  pub collection : IsCollection g shape new
  pub kept : (d : Cell) → has old d ≡ true → has new d ≡ true
  pub all : (d : Cell) → Q d → has shape d ≡ false → has new d ≡ true
