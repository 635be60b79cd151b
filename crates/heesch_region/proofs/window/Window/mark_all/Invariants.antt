use Rattle.std.proofs.Common.{◌≡◌, take}
use Rattle.heesch_grid.specs.declared.Cell.{Cell}
use Rattle.heesch_grid.specs.Cells.{has}
use Rattle.heesch_region.specs.Windows.{is_marked}
use Rattle.heesch_region.proofs.window.Window.mark_all.Given as goal

abbrev pub invariant-loop-c : goal.invariant-loop-c
invariant-loop-c l =
    (c : Cell) → is_marked l.self l.words c ≡ has (take l.c-index l.cells) c
