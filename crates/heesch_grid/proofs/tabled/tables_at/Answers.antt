use Rattle.std.specs.Prelude.{IfSome}
use Rattle.std.proofs.Common.{subst}
use Rattle.heesch_grid.specs.Pattern.{kind_of}
use Rattle.heesch_grid.specs.Tabled.{HasTables}
use Rattle.heesch_grid.proofs.KindTables.{tables_fit_at}
use Rattle.heesch_grid.proofs.tabled.tables_at.Goals as goal

pub returns : goal.returns
returns g c =
    let p = g.T.Tabled.pattern in
    let has = subst (λ o. IfSome o (λ t. HasTables (kind_of p.unit p.kinds c.args.c) t.now)) c.unwrap.ensures c.tables.ensures.kind in
    tables_fit_at p c.args.c c.unwrap.result.now g.met.T.Tabled.tests c.requires.cell has
