use Rattle.std.proofs.Common.{Bool, not, ◌&&◌, ◌||◌, take}
use Rattle.heesch_grid.specs.declared.Cell.{Cell}
use Rattle.heesch_grid.specs.Cells.{has}
use Rattle.heesch_grid.specs.Corona.{cells_of}
use Rattle.heesch_corona.specs.Searches.{IsLeastWith}
use Rattle.heesch_corona.proofs.gaps.least_beside.Given as goal

abbrev pub invariant-loop-i : goal.invariant-loop-i
invariant-loop-i g l = (test : Cell → Bool) → IsLeastWith test l.fn.so_far → IsLeastWith (λ d. test d || (has (take l.i (g.G.Grid.geometry.touching l.c)) d && not (has (cells_of (take l.outer l.index)) d))) l.least
