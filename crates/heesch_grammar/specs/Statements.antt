-- What holds of the lines of entries, as statements. A contract that cites one of them claims it.
use Rattle.std.specs.Prelude.{◌≡◌, ℕ, ◌<◌, ◌≤◌, Bool, true, false, List, [], ◌∷◌, ◌++◌, length, All, Some}
use Rattle.std.specs.List.{flat_map}
use Rattle.heesch_grid.specs.declared.Cell.{Cell}
use Rattle.heesch_grid.specs.Geometry.{Geometry}
use Rattle.heesch_cert.specs.declared.limits.Limits.{Limits}
use Rattle.heesch_cert.specs.declared.entry.Entry.{Entry}
use Rattle.heesch_cert.specs.TrueEntry.{IsTrueEntry}
use Rattle.heesch_text.specs.declared.line.Line.{Line}
use Rattle.heesch_text.specs.declared.line.Line.TheVariants as lines
use Rattle.heesch_text.specs.Catalogue.{entry_lines, brief_lines}
use Rattle.heesch_grammar.specs.declared.place.Place.TheVariants as places
use Rattle.heesch_grammar.specs.declared.spot.Spot.{Spot}
use Rattle.heesch_grammar.specs.Grammar.{step, steps, is_whole}
use Rattle.heesch_grammar.specs.Entries.{HoldsItsLines, LeadOver}

-- two entries that hold nothing beyond their lines, and have the same lines, are the same
abbrev pub LinesDetermineEntries : Type 0
LinesDetermineEntries = (d e : Entry) → HoldsItsLines d → HoldsItsLines e → entry_lines d ≡ entry_lines e → d ≡ e

-- a true entry holds nothing beyond its lines; they may stand in a full text, and its first two in a brief one, wherever an entry may end after fewer than 4,294,967,295 shapes
pub record MayStand (e : Entry) : Type 0 where
  pub holds : HoldsItsLines e
  pub full : (s : Spot) → is_whole s.place ≡ true → s.shapes < 4294967295 → LeadOver false s (entry_lines e)
  pub brief : (s : Spot) → is_whole s.place ≡ true → s.shapes < 4294967295 → LeadOver true s (brief_lines e)

abbrev pub TrueEntriesMayStand : Type 0
TrueEntriesMayStand = (g : Geometry) (limits : Limits) (e : Entry) → IsTrueEntry g limits e → MayStand e

-- the machine begins between two entries, before any
abbrev pub start : Spot
start = record { shapes = 0; place = places.Between }

-- the lines of a catalogue behind its header: those of each entry, and the last line with their number
abbrev pub catalogue_lines : (Entry → List Line) → List Entry → List Line
catalogue_lines lines_of es = flat_map lines_of es ++ lines.End (length es) ∷ []

-- the lines of true entries, at most 4,294,967,295 of them, are those of a whole catalogue, in full and in brief
pub record MayStandTogether (es : List Entry) : Type 0 where
  pub full : steps false start (catalogue_lines entry_lines es) ≡ Some (record { shapes = length es; place = places.Ended })
  pub brief : steps true start (catalogue_lines brief_lines es) ≡ Some (record { shapes = length es; place = places.Ended })

abbrev pub TrueCataloguesAreWhole : Type 0
TrueCataloguesAreWhole = (g : Geometry) (limits : Limits) (es : List Entry) → All (IsTrueEntry g limits) es → length es ≤ 4294967295 → MayStandTogether es

-- where an entry may end, `shape` and `end` lines are judged as between two entries
abbrev pub between_entries : Spot → Spot
between_entries s = record { shapes = s.shapes; place = places.Between }

pub record EndsEntry (brief : Bool) (s : Spot) (line : Line) : Type 0 where
  pub judged_alike : step brief s line ≡ step brief (between_entries s) line

abbrev pub EntriesEndAnywhere : Type 0
EntriesEndAnywhere = (brief : Bool) (s : Spot) → is_whole s.place ≡ true → ((cells : List Cell) → EndsEntry brief s (lines.Shape cells)) × ((count : ℕ) → EndsEntry brief s (lines.End count))
