use Rattle.heesch_check.proofs.Behind.{long_reads}
use Rattle.heesch_check.proofs.reading.read.Goals as goal

pub returns-in-Err-TooLong-clause-ok : goal.returns-in-Err-TooLong-clause-ok
returns-in-Err-TooLong-clause-ok g c = long_reads _ _ _ _ _ _ c.in-Err-TooLong.line c.at_hand.result (rw c.in-Err-TooLong.field-0-is at c.in-Err-TooLong.ensures.taken) c.at_hand.ensures
