use Rattle.heesch_lattice.proofs.Covers.{covers_turn}
use Rattle.heesch_lattice.proofs.laws.covers_turn.Goals as goal

pub returns : goal.returns
returns c = covers_turn
