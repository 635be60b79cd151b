use Rattle.heesch_orbit.proofs.Inverses.{inverses_are_symmetries}
use Rattle.heesch_orbit.proofs.laws.inverses_are_symmetries.Goals as goal

pub returns : goal.returns
returns c = inverses_are_symmetries
