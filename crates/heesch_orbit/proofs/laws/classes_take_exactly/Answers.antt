use Rattle.heesch_orbit.proofs.Deciding.{classes_take_exactly}
use Rattle.heesch_orbit.proofs.laws.classes_take_exactly.Goals as goal

pub returns : goal.returns
returns c = classes_take_exactly
