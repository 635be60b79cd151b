use Rattle.std.proofs.Common.{◌≡◌, take}
use Rattle.heesch_cnf.specs.Lines.{clauses_of}
use Rattle.heesch_rup.proofs.added.add_formed.Given as goal

abbrev pub invariant-loop-i : goal.invariant-loop-i
invariant-loop-i g l = l.added ≡ record { vars = l.fn.added.vars; clauses = clauses_of (take l.i (g.S.Steps.written l.steps).lines) }
