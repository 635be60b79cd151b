-- The lines of items, and what a reader keeps.
use Rattle.std.specs.Prelude.{◌≡◌, ℕ, ◌+◌, List, [], ◌∷◌, length, Bool, true, false, Option, Some, None, if◌then◌else◌}
use Rattle.std.specs.List.{flat_map}
use Rattle.heesch_cert.specs.declared.header.Header.{Header}
use Rattle.heesch_text.specs.declared.line.Line.{Line}
use Rattle.heesch_text.specs.declared.line.Line.TheVariants as lines
use Rattle.heesch_text.specs.Catalogue.{entry_lines}
use Rattle.heesch_grammar.specs.declared.place.Place.TheVariants as places
use Rattle.heesch_grammar.specs.Entries.{HoldsItsLines}
use Rattle.heesch_reader.specs.declared.item.Item.{Item}
use Rattle.heesch_reader.specs.declared.item.Item.TheVariants as items
use Rattle.heesch_reader.specs.declared.item.Part.{Part}
use Rattle.heesch_line.specs.declared.stops.LineStop.{LineStop}
use Rattle.heesch_reader.specs.declared.progress.Progress.{Progress}
use Rattle.heesch_reader.specs.declared.progress.Progress.TheVariants as stages
use Rattle.heesch_reader.specs.declared.scan.Appended.{Appended}

-- the lines that an item is
abbrev pub item_lines : Item → List Line
item_lines (items.Header header) = lines.Header header ∷ []
item_lines (items.Entry line entry) = entry_lines entry
item_lines (items.Brief line cells verdict) = lines.Shape cells ∷ lines.Verdict verdict ∷ []
item_lines (items.End count) = lines.End count ∷ []

-- the lines of items, one after the other
abbrev pub lines_of : List Item → List Line
lines_of found = flat_map item_lines found

-- an entry behind so many lines has the number of its first line, and holds nothing beyond its lines
abbrev pub IsItemAt : ℕ → Item → Type 0
IsItemAt before (items.Header header) = Unit {0}
IsItemAt before (items.Entry line entry) = (line ≡ before + 1) × HoldsItsLines entry
IsItemAt before (items.Brief line cells verdict) = line ≡ before + 1
IsItemAt before (items.End count) = Unit {0}

-- so do all entries behind so many lines
abbrev pub AreItemsAt : ℕ → List Item → Type 0
AreItemsAt before [] = Unit {0}
AreItemsAt before (item ∷ found) = IsItemAt before item × AreItemsAt (before + length (item_lines item)) found

-- ---- what the items say that a reader appended

-- one more item
abbrev pub with_item : Appended → Item → Appended
with_item a (items.Header header) = record { header = Some header; entries = a.entries; lines = a.lines + 1; ended = a.ended }
with_item a (items.Entry line entry) = record { header = a.header; entries = a.entries + 1; lines = a.lines + length (entry_lines entry); ended = a.ended }
with_item a (items.Brief line cells verdict) = record { header = a.header; entries = a.entries + 1; lines = a.lines + 2; ended = a.ended }
with_item a (items.End count) = record { header = a.header; entries = a.entries; lines = a.lines + 1; ended = true }

-- these items more
abbrev pub with_items : Appended → List Item → Appended
with_items a [] = a
with_items a (item ∷ found) = with_items (with_item a item) found

-- nothing was appended
abbrev pub none_appended : Appended
none_appended = record { header = None; entries = 0; lines = 0; ended = false }

-- how far a catalogue has come behind those items
abbrev pub progress_behind : Option Header → ℕ → Bool → Progress
progress_behind None entries ended = stages.Start
progress_behind (Some header) entries ended = stages.Behind header.brief (record { shapes = entries; place = if ended then places.Ended else places.Between })

abbrev pub progress_of : Appended → Progress
progress_of a = progress_behind a.header a.entries a.ended

-- what a reader keeps between two calls: its refusal if it has one, what was appended, and the bytes fed after the last whole item
pub record Kept : Type 0 where
  pub refusal : Option (LineStop Part)
  pub appended : Appended
  pub rest : List ℕ
