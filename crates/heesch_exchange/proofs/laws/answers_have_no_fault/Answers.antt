use Rattle.heesch_exchange.proofs.NoFault.{answer_has_none}
use Rattle.heesch_exchange.proofs.laws.answers_have_no_fault.Goals as goal

pub returns : goal.returns
returns c = answer_has_none
