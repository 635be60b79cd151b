use Rattle.heesch_grammar.proofs.Running.{may_stand_together}
use Rattle.heesch_grammar.proofs.laws.true_catalogues_are_whole.Goals as goal

pub returns : goal.returns
returns c = may_stand_together
