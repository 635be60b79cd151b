use Rattle.heesch_table.proofs.Writing.{kept_through}
use Rattle.heesch_table.proofs.heesch.HeeschCounts.append.Goals as goal

pub returns-in_err-append_labelled-clause-kept : goal.returns-in_err-append_labelled-clause-kept
returns-in_err-append_labelled-clause-kept c = kept_through _ _ _ _ c.loop-number.invariant c.append_labelled.ensures.kept

pub returns-in_err-append_count-clause-kept : goal.returns-in_err-append_count-clause-kept
returns-in_err-append_count-clause-kept c =
    kept_through _ _ _ _ c.loop-number.invariant (kept_through _ _ _ _ c.in_ok-append_labelled.ensures.ok c.append_count.ensures.kept)
