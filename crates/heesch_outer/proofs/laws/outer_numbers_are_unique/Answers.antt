use Rattle.heesch_outer.proofs.OuterNumbers.{outer_coronas_lie_between, fewer_outer_coronas_exist, outer_numbers_are_unique}
use Rattle.heesch_outer.proofs.laws.outer_numbers_are_unique.Goals as goal

pub returns : goal.returns
returns c = record { between = outer_coronas_lie_between; fewer = fewer_outer_coronas_exist; once = outer_numbers_are_unique }
