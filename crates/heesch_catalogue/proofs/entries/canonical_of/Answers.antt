use Rattle.heesch_grid.proofs.GrowthOfLists.{canonical_of_image}
use Rattle.heesch_catalogue.proofs.entries.canonical_of.Goals as goal

pub returns-clause-itself : goal.returns-clause-itself
returns-clause-itself g c =
    let made = c.canonical.ensures.canonical in
    canonical_of_image g.G.Grid.geometry g.met.G.Grid.laws c.args.shape.now c.canonical.result c.canonical.result c.cells-cells.ensures.shape.polyform.is_set.rising made.is_image made
