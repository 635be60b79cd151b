use Rattle.heesch_torus.specs.Trying.{HasTried}
use Rattle.heesch_torus.proofs.variables.variables_of_tiles.Given as goal

abbrev pub invariant-loop-turn : goal.invariant-loop-turn
invariant-loop-turn g l = HasTried g.G.Grid.geometry l.tiles.cells.now l.tiles.triple l.turn 0 l.found
