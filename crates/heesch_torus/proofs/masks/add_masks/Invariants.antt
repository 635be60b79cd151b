use Rattle.std.proofs.Common.{◌+◌, ◌*◌}
use Rattle.heesch_torus.specs.Masks.{AddsMasks}
use Rattle.heesch_torus.specs.Stepping.{ArePointsOf}
use Rattle.heesch_torus.proofs.Stepping.{tile_at}
use Rattle.heesch_torus.proofs.masks.add_masks.Given as goal

abbrev pub invariant-loop-db : goal.invariant-loop-db
invariant-loop-db g l = record {
  points : ArePointsOf g.G.Grid.geometry l.torus.cells.now l.fn.torus.triple (tile_at l.turn 0 l.db) l.points.items;
  masks : AddsMasks g.G.Grid.geometry l.torus.cells.now l.fn.torus.triple l.turn (l.db * l.fn.torus.triple.p) l.fn.masks.items l.masks.items;
}

abbrev pub invariant-loop-da : goal.invariant-loop-da
invariant-loop-da g l = record {
  points : ArePointsOf g.G.Grid.geometry l.torus.cells.now l.fn.torus.triple (tile_at l.turn l.da l.db) l.points.items;
  masks : AddsMasks g.G.Grid.geometry l.torus.cells.now l.fn.torus.triple l.turn (l.db * l.fn.torus.triple.p + l.da) l.fn.masks.items l.masks.items;
}
