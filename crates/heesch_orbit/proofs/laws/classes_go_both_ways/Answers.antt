use Rattle.heesch_orbit.proofs.Deciding.{classes_go_both_ways}
use Rattle.heesch_orbit.proofs.laws.classes_go_both_ways.Goals as goal

pub returns : goal.returns
returns c = classes_go_both_ways
