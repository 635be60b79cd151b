use Rattle.std.proofs.Common.{◌≡◌, false, take}
use Rattle.std.specs.List.{list_any}
use Rattle.heesch_grid.specs.Cells.{has}
use Rattle.heesch_shape.proofs.contact.touches_one.Given as goal

abbrev pub invariant-loop-i : goal.invariant-loop-i
invariant-loop-i g l =
    list_any (has l.others) (take l.i (g.G.Grid.geometry.touching l.c)) ≡ false
