use Rattle.std.proofs.Common.{take}
use Rattle.std.specs.List.{AllZip}
use Rattle.heesch_cnf.specs.Clauses.{assignment_of}
use Rattle.heesch_grid.specs.Placement.{IsLeastIsometry}
use Rattle.heesch_grid.specs.Statements.{chosen_layer}
use Rattle.heesch_levels.proofs.layers.layer_of.Given as goal

abbrev pub invariant-loop-before : goal.invariant-loop-before
invariant-loop-before g l =
    AllZip (λ by tile. IsLeastIsometry g.G.Grid.geometry l.universe.shape tile by) l.layer (chosen_layer (assignment_of l.values) (take l.before l.universe.vars) l.level)
