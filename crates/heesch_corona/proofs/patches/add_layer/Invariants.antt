use Rattle.std.proofs.Common.{take}
use Rattle.heesch_corona.specs.Building.{AreAdded}
use Rattle.heesch_corona.proofs.patches.add_layer.Given as goal

abbrev pub invariant-loop-by : goal.invariant-loop-by
invariant-loop-by g l = AreAdded g.G.Grid.geometry l.shape (take l.by-index l.layer) l.initial.index l.index
