use Rattle.std.proofs.Common.{Bool, not, ◌&&◌, ◌||◌, take}
use Rattle.std.specs.List.{list_any}
use Rattle.heesch_grid.specs.declared.Cell.{Cell}
use Rattle.heesch_grid.specs.Cells.{has}
use Rattle.heesch_grid.specs.Corona.{cells_of}
use Rattle.heesch_corona.specs.Searches.{IsLeastWith}
use Rattle.heesch_corona.proofs.gaps.least_around.Given as goal

abbrev pub invariant-loop-c : goal.invariant-loop-c
invariant-loop-c g l = (test : Cell → Bool) → IsLeastWith test l.fn.so_far → IsLeastWith (λ d. test d || (list_any (λ c. has (g.G.Grid.geometry.touching c) d) (take l.c-index l.c-items) && not (has (cells_of (take l.outer l.index)) d))) l.least
