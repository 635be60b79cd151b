use Rattle.std.proofs.Common.{◌≡◌, false, take}
use Rattle.std.specs.List.{list_any}
use Rattle.heesch_grid.specs.Cells.{has}
use Rattle.heesch_grid.specs.Corona.{cells_of}
use Rattle.heesch_corona.proofs.touching.is_beside.Given as goal

abbrev pub invariant-loop-i : goal.invariant-loop-i
invariant-loop-i g l = list_any (has (cells_of (take l.most l.index))) (take l.i (g.G.Grid.geometry.touching l.c)) ≡ false
