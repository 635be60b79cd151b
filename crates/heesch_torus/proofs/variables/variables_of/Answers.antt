use Rattle.heesch_tiling.proofs.Steps.{cells_near}
use Rattle.heesch_torus.proofs.variables.variables_of.Goals as goal

pub invariant_of-tiles-clause-near : goal.invariant_of-tiles-clause-near
invariant_of-tiles-clause-near g c = cells_near g.G.Grid.geometry c.args.cells.now c.requires.form c.requires.near
