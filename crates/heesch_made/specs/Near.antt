-- Cells near 0, where every range of the library holds.
use Rattle.std.specs.Prelude.{◌≡◌, List, true}
use Rattle.heesch_grid.specs.declared.Cell.{Cell}
use Rattle.heesch_grid.specs.Cells.{has}
use Rattle.heesch_grid.specs.Vectors.{IsWithin}

-- each of the cells lies within 2,048 of 0
abbrev pub AreNear : List Cell → Type 0
AreNear cells = (c : Cell) → has cells c ≡ true → IsWithin 2048 c
