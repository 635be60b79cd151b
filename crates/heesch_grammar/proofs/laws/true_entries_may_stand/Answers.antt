use Rattle.heesch_grammar.proofs.Truth.{may_stand}
use Rattle.heesch_grammar.proofs.laws.true_entries_may_stand.Goals as goal

pub returns : goal.returns
returns c = may_stand
