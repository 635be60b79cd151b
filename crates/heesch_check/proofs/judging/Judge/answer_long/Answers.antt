use Rattle.heesch_check.proofs.judging.Judge.answer_long.Goals as goal

pub returns-in-Next : goal.returns-in-Next
returns-in-Next g c = rw c.in-Next.is c.answer_early.ensures

pub returns-in-Inside : goal.returns-in-Inside
returns-in-Inside g c = rw c.in-Inside.is (rw c.next_is_invalid.ensures at c.answer_early-in-Inside.ensures)
