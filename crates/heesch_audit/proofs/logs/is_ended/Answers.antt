use Rattle.heesch_audit.proofs.logs.is_ended.Goals as goal

pub returns-in-Refuted : goal.returns-in-Refuted
returns-in-Refuted g c = rw c.in-Refuted.is c.is_refuted.ensures

pub returns-in-Spent : goal.returns-in-Spent
returns-in-Spent g c = rw c.in-Spent.is c.is_spent_in_turn.ensures
