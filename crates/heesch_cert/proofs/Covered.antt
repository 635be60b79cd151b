-- An entry with a cover has no searches, so it is true where its shape, form, cover and classes are.
use Rattle.std.proofs.Common.{List}
use Rattle.heesch_grid.specs.declared.Cell.{Cell}
use Rattle.heesch_grid.specs.Geometry.{Geometry}
use Rattle.heesch_cert.specs.declared.limits.Limits.{Limits}
use Rattle.heesch_cert.specs.declared.tiling.Tiling.{Tiling}
use Rattle.heesch_cert.specs.declared.tiling.Classes.{Classes}
use Rattle.heesch_cert.specs.declared.verdict.Verdict.{Verdict}
use Rattle.heesch_cert.specs.declared.entry.Evidence.TheVariants.{Cover}
use Rattle.heesch_cert.specs.declared.entry.Entry.{Entry}
use Rattle.heesch_cert.specs.TrueEntry.{IsTrueEntry, ShapeHolds, FormFits, CoverHolds, ClassesHold}

-- the entry with a cover
abbrev pub covered : List Cell → Verdict → Tiling → Classes → Entry
covered cells verdict tiling classes = record { cells = cells; verdict = verdict; evidence = Cover tiling classes }

pub covered_true : (g : Geometry) (limits : Limits) (cells : List Cell) (verdict : Verdict) (tiling : Tiling) (classes : Classes) → ShapeHolds g (covered cells verdict tiling classes) → FormFits g limits cells verdict (Cover tiling classes) → CoverHolds g cells (Cover tiling classes) → ClassesHold g cells verdict (Cover tiling classes) → IsTrueEntry g limits (covered cells verdict tiling classes)
covered_true g limits cells verdict tiling classes shape form cover each = record { shape = shape; form = form; cover = cover; classes = each; free = tt; wall = tt; wider = tt; bare = tt; triples = tt }
