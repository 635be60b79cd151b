use Rattle.std.proofs.Common.{◌≡◌, ◌++◌, take, filter, not}
use Rattle.heesch_grid.specs.Cells.{has}
use Rattle.heesch_encode.proofs.ring.add_touching.Given as goal

abbrev pub invariant-loop-i : goal.invariant-loop-i
invariant-loop-i g l = l.ring.items ≡ l.fn.ring.items ++ filter (λ d. not (has l.tile d)) (take l.i (g.G.Grid.geometry.touching l.c))
