use Rattle.heesch_orbit.specs.Turned.{AreImages}
use Rattle.heesch_orbit.proofs.turns.Turned.new.Given as goal

abbrev pub invariant-loop-turn : goal.invariant-loop-turn
invariant-loop-turn g l = AreImages g.G.Grid.geometry l.shape l.turn l.images.items
