use Rattle.std.proofs.Common.{◌≡◌, take}
use Rattle.std.specs.Prelude.{flat_map}
use Rattle.heesch_encode.proofs.Rings.{outer}
use Rattle.heesch_encode.proofs.ring.write_ring.Given as goal

abbrev pub invariant-loop-c : goal.invariant-loop-c
invariant-loop-c g l = l.ring.items ≡ flat_map (outer g.G.Grid.geometry l.tile) (take l.c-index l.tile)
