use Rattle.heesch_check.proofs.Written.{written_is_valid}
use Rattle.heesch_check.proofs.laws.catalogues_are_valid.Goals as goal

pub returns : goal.returns
returns c = written_is_valid
