use Rattle.std.proofs.Common.{take}
use Rattle.heesch_torus.specs.Stepping.{ArePointsOf}
use Rattle.heesch_torus.proofs.points.points_of_tile.Given as goal

abbrev pub invariant-loop-c : goal.invariant-loop-c
invariant-loop-c g l = ArePointsOf g.G.Grid.geometry (take l.c-index l.torus.cells.now) l.torus.triple l.by.iso l.points.items
