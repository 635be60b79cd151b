use Rattle.std.proofs.Common.{length, ap, arith}
use Rattle.heesch_cnf.specs.Flat.{Clauses}
use Rattle.heesch_io.proofs.Pieces.{length-pieces}
use Rattle.heesch_cnf.proofs.flat.FlatFormula.len.Goals as goal

pub returns-clause-count : goal.returns-clause-count
returns-clause-count c =
    let count = length-pieces c.self.inside.literals.items 0 c.self.inside.ends.items in
    let view = ap (λ (x : Clauses). length x.clauses) c.self.view_is in
    omega (arith, count, view, c.len.ensures, c.self.inside.ends.ok)

pub returns-clause-few : goal.returns-clause-few
returns-clause-few c = omega (arith, c.len.ensures, c.self.invariant.few)
