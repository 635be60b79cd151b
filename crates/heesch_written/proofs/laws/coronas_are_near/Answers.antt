use Rattle.heesch_written.proofs.Coronas.{coronas_are_near}
use Rattle.heesch_written.proofs.laws.coronas_are_near.Goals as goal

pub returns : goal.returns
returns c = coronas_are_near
