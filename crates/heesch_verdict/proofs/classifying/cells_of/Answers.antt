use Rattle.heesch_verdict.proofs.Nearby.{canonical_shape}
use Rattle.heesch_verdict.proofs.classifying.cells_of.Goals as goal

pub returns-in_err-to_vec-clause-shape : goal.returns-in_err-to_vec-clause-shape
returns-in_err-to_vec-clause-shape g c = canonical_shape g.G.Grid.geometry g.met.G.Grid.laws c.args.shape.now c.cells.ensures.shape c.requires

pub returns-clause-shape : goal.returns-clause-shape
returns-clause-shape g c = canonical_shape g.G.Grid.geometry g.met.G.Grid.laws c.args.shape.now c.cells.ensures.shape c.requires
