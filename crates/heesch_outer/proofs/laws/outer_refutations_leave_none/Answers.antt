use Rattle.heesch_outer.proofs.OuterSound.{outer_refutations_leave_none}
use Rattle.heesch_outer.proofs.laws.outer_refutations_leave_none.Goals as goal

pub returns : goal.returns
returns c = outer_refutations_leave_none
