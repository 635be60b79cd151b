use Rattle.heesch_grid.proofs.GrowthOfLists.{canonical_of_image}
use Rattle.heesch_made.proofs.shapes.canonical_of.Goals as goal

pub returns-clause-canonical : goal.returns-clause-canonical
returns-clause-canonical g c =
    let shape = c.in_ok-shape.shape in
    let made = c.canonical.ensures.canonical in
    canonical_of_image g.G.Grid.geometry g.met.G.Grid.laws shape c.canonical.result c.canonical.result c.in_ok-shape.ensures.shape.polyform.is_set.rising made.is_image made
