-- That the lines of true entries have the forms of a catalogue's lines, as statements. A contract that cites one of them claims it.
use Rattle.std.specs.List.{AllByRecursion}
use Rattle.heesch_grid.specs.Geometry.{Geometry, IsGrid}
use Rattle.heesch_cert.specs.declared.limits.Limits.{Limits}
use Rattle.heesch_cert.specs.declared.entry.Entry.{Entry}
use Rattle.heesch_cert.specs.Limits.{AreLimits}
use Rattle.heesch_cert.specs.Reduced.{HasReducedCover}
use Rattle.heesch_cert.specs.TrueEntry.{IsTrueEntry}
use Rattle.heesch_text.specs.Catalogue.{entry_lines, brief_lines}
use Rattle.heesch_text.specs.Naturals.{HasNaturals}
use Rattle.heesch_line.specs.Forms.{IsLine}

-- the lines of a true entry have the forms of a catalogue's lines, where its cover is reduced and its numbers fit 32 bits
abbrev pub TrueEntriesHaveLines : Type 0
TrueEntriesHaveLines = (g : Geometry) (limits : Limits) (e : Entry) → IsGrid g → AreLimits limits → IsTrueEntry g limits e → HasReducedCover g e.evidence → AllByRecursion HasNaturals (entry_lines e) → AllByRecursion IsLine (entry_lines e)

-- those of a brief text do for any cover and any numbers
abbrev pub TrueEntriesHaveBriefLines : Type 0
TrueEntriesHaveBriefLines = (g : Geometry) (limits : Limits) (e : Entry) → IsGrid g → AreLimits limits → IsTrueEntry g limits e → AllByRecursion IsLine (brief_lines e)
