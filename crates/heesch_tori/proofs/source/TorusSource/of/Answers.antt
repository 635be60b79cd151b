use Rattle.heesch_tori.proofs.Clauses.{table_formula}
use Rattle.heesch_tori.proofs.source.TorusSource.of.Goals as goal

pub returns-clause-formula : goal.returns-clause-formula
returns-clause-formula g c =
    table_formula g.G.Grid.geometry g.met.G.Grid.laws c.args.shape.now c.args.triple c.requires.domain.of_domain.is_triple c.in_ok-table.table.variables c.in_ok-table.ensures.variables c.in_ok-table.table.lists c.in_ok-table.ensures.lists
