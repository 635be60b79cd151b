use Rattle.heesch_torus.specs.Trying.{HasTried}
use Rattle.heesch_torus.proofs.variables.try_turn.Given as goal

abbrev pub invariant-loop-k : goal.invariant-loop-k
invariant-loop-k g l = HasTried g.G.Grid.geometry l.tiles.cells.now l.tiles.triple l.turn l.k l.found
