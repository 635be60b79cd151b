use Rattle.std.proofs.Common.{take}
use Rattle.heesch_judge.specs.Propagation.{IsForcedExtension}
use Rattle.heesch_judge.proofs.propagation.pass_over.Given as goal

abbrev pub invariant-loop-index : goal.invariant-loop-index
invariant-loop-index g l = IsForcedExtension (take l.index (g.C.ClauseSource.listed l.formula).clauses) l.fn.values l.grew l.values
