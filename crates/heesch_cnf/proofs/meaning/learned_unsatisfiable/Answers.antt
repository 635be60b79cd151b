use Rattle.heesch_cnf.proofs.Refuted.{learned_unsatisfiable_lem}
use Rattle.heesch_cnf.proofs.meaning.learned_unsatisfiable.Goals as goal

pub returns : goal.returns
returns c = learned_unsatisfiable_lem
