use Rattle.std.proofs.Common.{◌≡◌, ◌&&◌, not, true, take}
use Rattle.std.specs.List.{list_all}
use Rattle.heesch_grid.specs.Cells.{has}
use Rattle.heesch_cuts.proofs.checking.are_outside.Given as goal

abbrev pub invariant-loop-c : goal.invariant-loop-c
invariant-loop-c g l = list_all (λ c. g.G.Grid.geometry.is_cell c && not (has l.shape c)) (take l.c-index l.cells) ≡ true
