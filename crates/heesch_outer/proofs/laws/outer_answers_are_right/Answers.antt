use Rattle.heesch_outer.proofs.OuterRight.{outer_answers_are_right}
use Rattle.heesch_outer.proofs.laws.outer_answers_are_right.Goals as goal

pub returns : goal.returns
returns c = outer_answers_are_right
