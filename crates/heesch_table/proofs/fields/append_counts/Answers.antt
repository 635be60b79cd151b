use Rattle.heesch_table.proofs.Writing.{kept_through}
use Rattle.heesch_table.proofs.fields.append_counts.Goals as goal

pub returns-in_err-append_count-clause-kept : goal.returns-in_err-append_count-clause-kept
returns-in_err-append_count-clause-kept c = kept_through _ _ _ _ c.loop-label.invariant c.append_count.ensures.kept
