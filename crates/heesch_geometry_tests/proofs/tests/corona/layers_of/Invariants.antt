use Rattle.std.proofs.Common.{All}
use Rattle.heesch_corona.specs.Tiles.{IsInRange}
use Rattle.heesch_geometry_tests.proofs.tests.corona.layers_of.Given as goal

abbrev pub invariant-loop-layer : goal.invariant-loop-layer
invariant-loop-layer g l = All (All (IsInRange g.G.Grid.geometry)) l.all
