use Rattle.std.proofs.Common.{[], take}
use Rattle.heesch_grid.specs.Geometry.{Touching}
use Rattle.heesch_place.specs.Found.{Adds, FromOne}
use Rattle.heesch_place.proofs.around.cells_touching.Given as goal

abbrev pub invariant-loop-c : goal.invariant-loop-c
invariant-loop-c g l = Adds (FromOne (Touching g.G.Grid.geometry) (take l.c-index l.c-items)) [] l.all.items
