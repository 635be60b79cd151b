use Rattle.std.proofs.Common.{take}
use Rattle.heesch_cnf.specs.Lines.{clauses_of}
use Rattle.heesch_judge.specs.Propagation.{IsForcedExtension}
use Rattle.heesch_judge.proofs.propagation.pass_over_lines.Given as goal

abbrev pub invariant-loop-index : goal.invariant-loop-index
invariant-loop-index g l = IsForcedExtension (take l.index (clauses_of (g.S.Steps.written l.steps).lines)) l.fn.values l.grew l.values
