use Rattle.heesch_torus.proofs.Valued.{contains_is, mask_among, double_among}
use Rattle.heesch_torus.proofs.cover.is_among.Goals as goal

pub returns-in_default : goal.returns-in_default
returns-in_default g c = double_among g.G.Grid.geometry g.met.G.Grid.laws c.args.torus.now.cells.now c.args.torus.now.triple c.args.torus.now.maskable.triple c.args.masks.now c.args.by c.in_default.ensures.none

pub returns : goal.returns
returns g c =
    mask_among g.G.Grid.geometry g.met.G.Grid.laws c.args.torus.now.cells.now c.args.torus.now.triple c.args.torus.now.maskable.triple c.args.masks.now c.args.by c.in-Some.mask c.in-Some.ensures.found c.contains.result
    (contains_is c.args.masks.now c.in-Some.mask c.contains.result c.contains.ensures.value)
