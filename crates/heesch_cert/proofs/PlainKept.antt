-- A true entry of a shape with a plain tiling that is admitted is a tiling of its kind.
use Rattle.std.proofs.Common.{◌≡◌, refl, List}
use Rattle.std.specs.Prelude.{Some}
use Rattle.heesch_grid.specs.declared.Cell.{Cell}
use Rattle.heesch_grid.specs.Geometry.{Geometry}
use Rattle.heesch_grid.specs.Tiling.{Plain, Translation as PlainTranslation, HalfTurn as PlainHalfTurn, IsPlain}
use Rattle.heesch_cert.specs.declared.limits.Limits.{Limits}
use Rattle.heesch_cert.specs.declared.tiling.Tiling.{Tiling}
use Rattle.heesch_cert.specs.declared.verdict.Kind.{Kind}
use Rattle.heesch_cert.specs.declared.verdict.Kind.TheVariants.{Translation, HalfTurn, Periodic}
use Rattle.heesch_cert.specs.declared.verdict.Verdict.{Verdict}
use Rattle.heesch_cert.specs.declared.verdict.Verdict.TheVariants.{Tiles, Heesch, Levels, Holes, Turns, Size}
use Rattle.heesch_cert.specs.declared.entry.Evidence.{Evidence}
use Rattle.heesch_cert.specs.declared.entry.Evidence.TheVariants.{Cover, Search}
use Rattle.heesch_cert.specs.Statements.{IsTilingOf, PlainTilingsAreKept, kind_of}
use Rattle.heesch_cert.specs.TrueEntry.{FormFits, IsAdmitted, IsOfKind}

module _ (g : Geometry) (limits : Limits) (shape : List Cell) where
  -- no tiling of another kind is written
  same_kind : (kind : Kind) (tiling : Tiling) (plain : Plain) → IsOfKind g limits shape tiling kind → IsPlain g shape (Some plain) → IsAdmitted limits plain → kind ≡ kind_of plain
  same_kind Translation tiling (PlainTranslation t) k p a = refl
  same_kind Translation tiling (PlainHalfTurn t da db) k p a = absurd (p.0 tiling.triple k.0.holds)
  same_kind HalfTurn tiling (PlainTranslation t) k p a = absurd (k.1.0.0 t p.holds)
  same_kind HalfTurn tiling (PlainHalfTurn t da db) k p a = refl
  same_kind Periodic tiling plain k p a = absurd (k.0 plain p a)

  kept : (verdict : Verdict) (evidence : Evidence) (plain : Plain) → FormFits g limits shape verdict evidence → IsPlain g shape (Some plain) → IsAdmitted limits plain → IsTilingOf (kind_of plain) verdict
  kept (Tiles kind domain count) (Cover tiling classes) plain f p a = same_kind kind tiling plain f.3 p a
  kept (Heesch h m) (Cover tiling classes) plain f p a = absurd f
  kept (Levels h) (Cover tiling classes) plain f p a = absurd f
  kept (Holes h) (Cover tiling classes) plain f p a = absurd f
  kept (Turns h phase at) (Cover tiling classes) plain f p a = absurd f
  kept (Size h phase at) (Cover tiling classes) plain f p a = absurd f
  kept verdict (Search free wall bare wider triples) plain f p a = absurd (f.0 plain p a)

pub plain_tilings_are_kept : PlainTilingsAreKept
plain_tilings_are_kept g limits entry plain t p a = kept g limits entry.cells entry.verdict entry.evidence plain t.form p a
