use Rattle.std.proofs.Common.{◌≡◌, true, take}
use Rattle.heesch_grid.specs.declared.Cell.{Cell}
use Rattle.heesch_grid.specs.Cells.{has}
use Rattle.heesch_grid.specs.Vectors.{IsWithin}
use Rattle.heesch_made.proofs.shapes.are_near.Given as goal

abbrev pub invariant-loop-c : goal.invariant-loop-c
invariant-loop-c l = (c : Cell) → has (take l.c-index l.cells) c ≡ true → IsWithin 2048 c
