use Rattle.std.proofs.Common.{◌≡◌, false, take}
use Rattle.std.specs.List.{list_any}
use Rattle.heesch_grid.specs.Geometry.{are_touching}
use Rattle.heesch_shape.proofs.contact.some_touch.Given as goal

abbrev pub invariant-loop-c : goal.invariant-loop-c
invariant-loop-c g l =
    list_any (λ c. list_any (are_touching g.G.Grid.geometry c) l.others) (take l.c-index l.cells) ≡ false
