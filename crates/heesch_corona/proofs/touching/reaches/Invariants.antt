use Rattle.std.proofs.Common.{◌≡◌, false, take}
use Rattle.heesch_corona.specs.Searches.{does_reach}
use Rattle.heesch_corona.proofs.touching.reaches.Given as goal

abbrev pub invariant-loop-c : goal.invariant-loop-c
invariant-loop-c g l = does_reach g.G.Grid.geometry l.index (take l.c-index l.c-items) l.most ≡ false
