use Rattle.heesch_logs.proofs.Equal.{through}
use Rattle.heesch_logs.proofs.coronas.are_coronas.Goals as goal

pub returns : goal.returns
returns g c = λ tiles are. through c.is_holding.ensures (c.in_ok-answer.ensures.holds tiles are)
