use Rattle.std.proofs.Common.{length, ap, arith}
use Rattle.heesch_torus.specs.Variables.{sets_of}
use Rattle.heesch_tori.specs.TorusView.{TorusView}
use Rattle.heesch_tori.proofs.Clauses.{clauses_length}
use Rattle.heesch_tori.proofs.source.TorusSourceClauseSource.count.Goals as goal

pub returns-clause-count : goal.returns-clause-count
returns-clause-count g c =
    let table = c.self.inside.table in
    let whole = clauses_length (sets_of c.self.inside.table.variables) c.self.inside.table.lists c.self.inside.later.counts c.self.invariant.counts_are in
    let seen = ap (λ (s : TorusView). length s.formula.clauses) c.self.view_is in
    let lists = ap length c.lists.ensures.lists in
    omega arith
