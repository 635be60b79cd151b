use Rattle.std.proofs.Common.{◌*◌, ap, ◌∙◌}
use Rattle.heesch_grid.specs.Lattice.{Triple}
use Rattle.heesch_tiling.proofs.Spots.{numbered}
use Rattle.heesch_tiling.proofs.window.number_of.Goals as goal

pub returns-clause-is : goal.returns-clause-is
returns-clause-is g c =
    let wide = c.side.ensures.is ∙ ap (λ (t : Triple). g.G.Grid.geometry.unit * t.p) c.triple.view_is in
    (numbered g.G.Grid.geometry g.met.G.Grid.laws c.args.triple c.requires.triple c.args.c c.requires.reduced c.side.result c.number.result wide c.number.ensures).0

pub returns-clause-below : goal.returns-clause-below
returns-clause-below g c =
    let wide = c.side.ensures.is ∙ ap (λ (t : Triple). g.G.Grid.geometry.unit * t.p) c.triple.view_is in
    (numbered g.G.Grid.geometry g.met.G.Grid.laws c.args.triple c.requires.triple c.args.c c.requires.reduced c.side.result c.number.result wide c.number.ensures).1
