use Rattle.std.proofs.Common.{subst}
use Rattle.heesch_tiling.specs.CoverAnswer.{IsCoverAnswer}
use Rattle.heesch_audit.proofs.Covers.{doubled_not_exact, missed_not_exact}
use Rattle.heesch_logs.proofs.Equal.{refused}
use Rattle.heesch_audit.proofs.cover.is_cover.Goals as goal

pub returns-in-Doubled : goal.returns-in-Doubled
returns-in-Doubled g c =
    let tiling = c.args.tiling.now in
    let found = subst (IsCoverAnswer g.G.Grid.geometry c.args.shape.now tiling.triple tiling.places) c.in-Doubled.is c.in_ok-check_cover.ensures in
    refused (doubled_not_exact g.G.Grid.geometry c.args.shape.now tiling.triple tiling.places c.in-Doubled.cell found)

pub returns-in-Missed : goal.returns-in-Missed
returns-in-Missed g c =
    let tiling = c.args.tiling.now in
    let found = subst (IsCoverAnswer g.G.Grid.geometry c.args.shape.now tiling.triple tiling.places) c.in-Missed.is c.in_ok-check_cover.ensures in
    refused (missed_not_exact g.G.Grid.geometry c.args.shape.now tiling.triple tiling.places c.in-Missed.cell found)
