use Rattle.std.proofs.Common.{◌≡◌, map, take}
use Rattle.heesch_place.proofs.turned.turned_cells.Given as goal

abbrev pub invariant-loop-c : goal.invariant-loop-c
invariant-loop-c g l = l.all.items ≡ map (g.G.Grid.geometry.turn l.k) (take l.c-index l.cells)
