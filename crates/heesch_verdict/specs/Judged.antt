-- Verdicts with their evidence.
use Rattle.std.specs.Prelude.{List}
use Rattle.heesch_grid.specs.declared.Cell.{Cell}
use Rattle.heesch_grid.specs.Geometry.{Geometry}
use Rattle.heesch_cert.specs.declared.limits.Limits.{Limits}
use Rattle.heesch_cert.specs.Reduced.{HasReducedCover}
use Rattle.heesch_cert.specs.TrueEntry.{IsTrueEntry}
use Rattle.heesch_verdict.specs.declared.judged.Judged.{Judged}
use Rattle.heesch_verdict.specs.Earliest.{WritesEarliest}

-- with the shape's cells they are a true entry, whose cover is reduced, and the earliest that its kind asks for
pub record IsJudged (g : Geometry) (limits : Limits) (shape : List Cell) (judged : Judged) : Type 0 where
  pub entry : IsTrueEntry g limits (record { cells = shape; verdict = judged.verdict; evidence = judged.evidence })
  pub reduced : HasReducedCover g judged.evidence
  pub earliest : WritesEarliest g limits shape judged.verdict judged.evidence
