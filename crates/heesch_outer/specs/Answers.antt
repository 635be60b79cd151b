-- The answer on one shape, and its text.
use Rattle.std.specs.Prelude.{◌≡◌, ℕ, List}
use Rattle.std.specs.List.{AllByRecursion}
use Rattle.heesch_grid.specs.declared.Cell.{Cell}
use Rattle.heesch_grid.specs.Geometry.{Geometry}
use Rattle.heesch_cert.specs.declared.limits.Limits.{Limits}
use Rattle.heesch_catalogue.specs.Entries.{IsEntryOf}
use Rattle.heesch_text.specs.Catalogue.{entry_lines}
use Rattle.heesch_text.specs.Naturals.{HasNaturals}
use Rattle.heesch_outer.specs.declared.answers.OuterEntry.{OuterEntry}
use Rattle.heesch_outer.specs.Outers.{HasOuterAnswer, record_text}
use Rattle.heesch_outer.specs.Record.{answer_lines}

-- the entry is of this shape's canonical list, true and with a right verdict, and it has an answer on its outer number
pub record IsOuterEntryOf (g : Geometry) (limits : Limits) (shape : List Cell) (e : OuterEntry) : Type 0 where
  pub is_entry : IsEntryOf g limits shape e.entry
  pub has_answer : HasOuterAnswer g limits e

-- the natural numbers of the lines of the entry and of its answer fit 32 bits
abbrev pub RecordHasNaturals : OuterEntry → Type 0
RecordHasNaturals e = AllByRecursion HasNaturals (entry_lines e.entry) × AllByRecursion HasNaturals (answer_lines e.answer)

-- the text is the record of the entry, whose natural numbers fit 32 bits
abbrev pub IsRecord : OuterEntry → List ℕ → Type 0
IsRecord e text = (text ≡ record_text e) × RecordHasNaturals e
