use Rattle.heesch_check.proofs.Near.{entry_near}
use Rattle.heesch_outer_check.proofs.NearAnswers.{answer_near}
use Rattle.heesch_outer_check.proofs.judging.is_right.Goals as goal

pub audit-requires-clause-near : goal.audit-requires-clause-near
audit-requires-clause-near g c κs within = let r = c.requires.readable in entry_near c.args.record_read.now.entry r.holds r.entry_forms

pub check_outer-requires-clause-near : goal.check_outer-requires-clause-near
check_outer-requires-clause-near g c κs within = answer_near c.args.record_read.now.answer c.requires.readable.answer_forms
