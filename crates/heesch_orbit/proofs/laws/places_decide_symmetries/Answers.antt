use Rattle.heesch_orbit.proofs.Deciding.{places_decide_symmetries}
use Rattle.heesch_orbit.proofs.laws.places_decide_symmetries.Goals as goal

pub returns : goal.returns
returns c = places_decide_symmetries
