use Rattle.std.proofs.Common.{take}
use Rattle.heesch_corona.specs.Building.{IsBuilt}
use Rattle.heesch_corona.proofs.patches.patches_of.Given as goal

abbrev pub invariant-loop-layer : goal.invariant-loop-layer
invariant-loop-layer g l = IsBuilt g.G.Grid.geometry l.shape (take l.layer-index l.layer-items) l.index l.ends.items
