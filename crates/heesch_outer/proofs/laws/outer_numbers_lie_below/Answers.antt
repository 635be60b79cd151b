use Rattle.heesch_outer.proofs.OuterNumbers.{outer_numbers_lie_below}
use Rattle.heesch_outer.proofs.laws.outer_numbers_lie_below.Goals as goal

pub returns : goal.returns
returns c = outer_numbers_lie_below
