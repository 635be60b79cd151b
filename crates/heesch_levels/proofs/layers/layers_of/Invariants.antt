use Rattle.std.specs.List.{AllZip}
use Rattle.heesch_cnf.specs.Clauses.{assignment_of}
use Rattle.heesch_grid.specs.Placement.{IsLeastIsometry}
use Rattle.heesch_grid.specs.Statements.{chosen_layers}
use Rattle.heesch_levels.proofs.layers.layers_of.Given as goal

abbrev pub invariant-loop-below : goal.invariant-loop-below
invariant-loop-below g l =
    AllZip (λ layer placed. AllZip (λ by tile. IsLeastIsometry g.G.Grid.geometry l.universe.shape tile by) layer placed) l.layers (chosen_layers (assignment_of l.values) l.universe.vars l.below)
