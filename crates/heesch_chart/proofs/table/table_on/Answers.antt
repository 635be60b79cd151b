use Rattle.std.proofs.Common.{sym}
use Rattle.heesch_shape.proofs.Near.{canonical_within}
use Rattle.heesch_encode.proofs.MovedRings.{same_rings}
use Rattle.heesch_chart.proofs.table.table_on.Goals as goal

pub rings_of-requires : goal.rings_of-requires
rings_of-requires g c =
    let s = c.cells-cells.ensures.shape in
    canonical_within g.G.Grid.geometry g.met.G.Grid.laws c.args.shape.now c.args.shape.now s.polyform c.requires.canonical s.few

pub filled-requires : goal.filled-requires
filled-requires g c =
    let rings_are = same_rings g.G.Grid.geometry c.args.shape.now c.args.universe.now.shape c.in_ok-rings.rings.items c.deref.result.now c.requires.shape c.deref.ensures.value c.in_ok-rings.ensures in
    record { universe = c.requires.universe; shape_is = c.requires.shape; level_is = sym c.level.ensures.level; few = c.requires.few; rings_are = rings_are }
