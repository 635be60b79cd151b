use Rattle.std.proofs.Common.{◌≡◌, false, take}
use Rattle.heesch_grid.specs.Cells.{meet}
use Rattle.heesch_cuts.proofs.cells.are_apart.Given as goal

abbrev pub invariant-loop-c : goal.invariant-loop-c
invariant-loop-c l = meet (take l.c-index l.tile) l.cells ≡ false
