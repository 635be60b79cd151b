use Rattle.heesch_outer.proofs.OuterNumbers.{outer_numbers_are_next}
use Rattle.heesch_outer.proofs.laws.outer_numbers_are_next.Goals as goal

pub returns : goal.returns
returns c = outer_numbers_are_next
