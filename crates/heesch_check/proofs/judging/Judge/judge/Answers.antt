use Rattle.heesch_check.proofs.Near.{entry_near}
use Rattle.heesch_check.proofs.judging.Judge.judge.Goals as goal

pub audit-requires-clause-near : goal.audit-requires-clause-near
audit-requires-clause-near g c κs within =
    let fit = rw c.in-Entry.is at c.requires.fit in
    entry_near c.in-Entry.entry fit.holds fit.forms
