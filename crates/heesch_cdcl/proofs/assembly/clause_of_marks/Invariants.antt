use Rattle.heesch_cdcl.proofs.Assembled.{IsAssembled}
use Rattle.heesch_cdcl.proofs.assembly.clause_of_marks.Given as goal

abbrev pub invariant-loop-var : goal.invariant-loop-var
invariant-loop-var l = IsAssembled l.trail.vars l.trail.steps l.marks.seen l.var-items l.var-index l.last l.clause.items
