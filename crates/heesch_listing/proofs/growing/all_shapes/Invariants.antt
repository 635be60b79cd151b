use Rattle.std.proofs.Common.{◌<◌, ◌^◌, vec_len}
use Rattle.heesch_grid.specs.Polyform.{IsFreeList}
use Rattle.heesch_listing.proofs.growing.all_shapes.Given as goal

abbrev pub invariant-loop-size : goal.invariant-loop-size
invariant-loop-size g l = record {
  free : IsFreeList g.G.Grid.geometry l._size l.shapes.items;
  few : vec_len l.shapes < 2 ^ 32;
}
