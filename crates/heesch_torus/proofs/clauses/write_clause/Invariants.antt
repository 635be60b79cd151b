use Rattle.std.proofs.Common.{◌≡◌, map, take}
use Rattle.heesch_cert.specs.Literals.{literals}
use Rattle.heesch_torus.proofs.clauses.write_clause.Given as goal

abbrev pub invariant-loop-var : goal.invariant-loop-var
invariant-loop-var l = l.clause.items ≡ map literals.plus (take l.var-index l.variables)
