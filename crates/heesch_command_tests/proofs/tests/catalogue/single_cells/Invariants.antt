use Rattle.std.proofs.Common.{All}
use Rattle.heesch_grid.specs.Polyform.{IsCanonicalListOf}
use Rattle.heesch_command_tests.proofs.tests.catalogue.single_cells.Given as goal

abbrev pub invariant-loop : goal.invariant-loop
invariant-loop g l = All (λ s. IsCanonicalListOf g.G.Grid.geometry s s) l.shapes.items
