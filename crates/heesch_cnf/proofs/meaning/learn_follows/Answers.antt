use Rattle.heesch_cnf.proofs.Conflict.{shown_follows_lem}
use Rattle.heesch_cnf.proofs.meaning.learn_follows.Goals as goal

pub returns : goal.returns
returns c vars clauses clause hints holds = shown_follows_lem clauses clause hints holds.1.1
