-- What holds of outer records that can be read, as statements. A contract that cites one of them claims it.
use Rattle.std.specs.Prelude.{◌≡◌}
use Rattle.std.specs.List.{AllByRecursion}
use Rattle.heesch_grid.specs.Geometry.{Geometry}
use Rattle.heesch_cert.specs.declared.limits.Limits.{Limits}
use Rattle.heesch_cert.specs.TrueEntry.{IsTrueEntry}
use Rattle.heesch_text.specs.Catalogue.{entry_lines}
use Rattle.heesch_line.specs.Forms.{IsLine}
use Rattle.heesch_outer.specs.declared.answers.OuterEntry.{OuterEntry}
use Rattle.heesch_outer.specs.Outers.{record_text}
use Rattle.heesch_outer_check.specs.ReadableRecords.{HasLineForms, IsReadableRecord}

-- two records that can be read, and have one text, are the same
abbrev pub TextsDetermineRecords : Type 0
TextsDetermineRecords = (d e : OuterEntry) → IsReadableRecord d → IsReadableRecord e → record_text d ≡ record_text e → d ≡ e

-- a record of a true entry can be read where its lines have the forms of a catalogue's
abbrev pub TrueRecordsAreReadable : Type 0
TrueRecordsAreReadable = (g : Geometry) (limits : Limits) (e : OuterEntry) → IsTrueEntry g limits e.entry → AllByRecursion IsLine (entry_lines e.entry) → HasLineForms e.answer → IsReadableRecord e
