-- What one step does to a table.
use Rattle.std.specs.Prelude.{◌≡◌, ◌⊎◌, ℕ, ◌+◌, ◌<◌, ◌^◌, List, [], ◌∷◌, ◌++◌, length, Option, Some, None, Result, Ok, Err, Bool, ⊤}
use Rattle.std.specs.List.{AllByRecursion, AllZip}
use Rattle.heesch_grid.specs.declared.Cell.{Cell}
use Rattle.heesch_grid.specs.declared.GridName.{GridName}
use Rattle.heesch_grid.specs.Geometry.{Geometry}
use Rattle.heesch_grid.specs.Names.{geometry_of}
use Rattle.heesch_grid.specs.Vectors.{IsWithin}
use Rattle.heesch_cert.specs.declared.verdict.Verdict.{Verdict}
use Rattle.heesch_shape.specs.declared.faults.ShapeFault.{ShapeFault}
use Rattle.heesch_shape.specs.Faults.{IsFault, IsFaultless, number_of}
use Rattle.heesch_reader.specs.declared.item.Item.{Item}
use Rattle.heesch_reader.specs.declared.item.Item.TheVariants as items
use Rattle.heesch_reader.specs.declared.item.Part.{Part}
use Rattle.heesch_reader.specs.declared.answers.Taken.{Taken}
use Rattle.heesch_reader.specs.declared.answers.Taken.TheVariants as takens
use Rattle.heesch_reader.specs.declared.answers.StreamStop.{StreamStop}
use Rattle.heesch_reader.specs.declared.answers.StreamStop.TheVariants as stream_stops
use Rattle.heesch_table.specs.Counts.{Counts, counts_of}
use Rattle.heesch_table.specs.Holed.{IsHoled}
use Rattle.heesch_table.specs.declared.answers.EntryFault.{EntryFault}
use Rattle.heesch_table.specs.declared.answers.Onward.{Onward}
use Rattle.heesch_table.specs.declared.answers.Onward.TheVariants as onwards
use Rattle.heesch_io.specs.declared.fault.IoStop.{IoStop}
use Rattle.heesch_io.specs.declared.fault.IoStop.TheVariants as stops
use Rattle.heesch_table.specs.declared.table.Table.{Table}
use Rattle.heesch_table.specs.Entries.{entries_of, IsEntryAt, IsOfGrid, AreShapes, IsCounted}

-- the stream answered a fault of this line: 6 where it can't stand, 8 where the input is too long from it on
abbrev pub IsFaultOf : Result Taken StreamStop → (line number : ℕ) → Type 0
IsFaultOf taken line number = ((part : Part) × (taken ≡ Err (stream_stops.NotText line part)) × (number ≡ 6)) ⊎ ((taken ≡ Err (stream_stops.TooLong line)) × (number ≡ 8))

-- how the input goes on, by what the stream answered
abbrev pub IsOnward : Result Taken StreamStop → Result Onward IoStop → Type 0
IsOnward taken (Ok onwards.More) = taken ≡ Ok takens.Piece
IsOnward taken (Ok onwards.End) = taken ≡ Ok takens.End
IsOnward taken (Ok (onwards.Fault line number)) = IsFaultOf taken line number
IsOnward taken (Err stops.Failed) = taken ≡ Err stream_stops.Failed
IsOnward taken (Err stops.NoMemory) = taken ≡ Err stream_stops.NoMemory

-- the grid of the header, if it was read
abbrev pub grid_in : List Item → Option GridName
grid_in (items.Header header ∷ found) = Some header.grid
grid_in found = None

-- these items were counted, and their entries are shapes
pub record HasTable (found : List Item) (t : Table) : Type 0 where
  pub grid : GridName
  pub of_grid : IsOfGrid grid found
  pub grid_is : t.grid ≡ grid_in found
  pub shapes : AreShapes (geometry_of grid) (entries_of found)
  pub counted : List (Bool × Verdict)
  pub counts : AllZip (IsCounted (geometry_of grid)) (entries_of found) counted
  pub tally_is : t.tally ≡ counts_of counted

-- the cells lie within 100,000 of 0
abbrev pub AreWithin : List Cell × Verdict → Type 0
AreWithin entry = AllByRecursion (IsWithin 100000) entry.0

-- the first item, if there is one, is a header
abbrev pub IsHeaded : List Item → Type 0
IsHeaded [] = ⊤
IsHeaded (items.Header header ∷ found) = ⊤
IsHeaded (item ∷ found) = ⊥

-- the items may stand behind those, fewer than 2^32 entries in all
pub record AreReady (found more : List Item) : Type 0 where
  pub headed : IsHeaded (found ++ more)
  pub within : AllByRecursion AreWithin (entries_of more)
  pub few : length (entries_of (found ++ more)) < 2 ^ 32

-- an entry among the items is the first whose cells are no shape
pub record HasFirstFault (g : Geometry) (more : List Item) (line number : ℕ) : Type 0 where
  pub before : List Item
  pub item : Item
  pub behind : List Item
  pub split : more ≡ before ++ item ∷ behind
  pub shapes : AreShapes g (entries_of before)
  pub cells : List Cell
  pub entry : IsEntryAt item line cells
  pub fault : ShapeFault
  pub is_fault : IsFault g cells fault
  pub number_is : number ≡ number_of fault

-- ---- an entry

pub record CountsOne (g : Geometry) (old new : Counts) (cells : List Cell) (verdict : Verdict) : Type 0 where
  pub shape : IsFaultless g cells
  pub one_more : new.shapes ≡ old.shapes + 1
  pub counts : (counted : List (Bool × Verdict)) → old ≡ counts_of counted → (holed : Bool) × IsHoled g cells holed × (new ≡ counts_of (counted ++ (holed, verdict) ∷ []))

-- it was counted, or its cells are no shape
abbrev pub CountsEntry : Geometry → Counts → Counts → ℕ → List Cell → Verdict → Option EntryFault → Type 0
CountsEntry g old new line cells verdict None = CountsOne g old new cells verdict
CountsEntry g old new line cells verdict (Some told) = (told.line ≡ line) × ((fault : ShapeFault) × IsFault g cells fault × (told.number ≡ number_of fault))

-- ---- the entries among items

pub record CountsAll (g : Geometry) (old new : Counts) (more : List Item) : Type 0 where
  pub shapes : AreShapes g (entries_of more)
  pub as_many : new.shapes ≡ old.shapes + length (entries_of more)
  pub counts : (counted : List (Bool × Verdict)) → old ≡ counts_of counted → (later : List (Bool × Verdict)) × AllZip (IsCounted g) (entries_of more) later × (new ≡ counts_of (counted ++ later))

-- all were counted, or the cells of one are no shape
abbrev pub CountsEntries : Geometry → Counts → Counts → List Item → Option EntryFault → Type 0
CountsEntries g old new more None = CountsAll g old new more
CountsEntries g old new more (Some told) = HasFirstFault g more told.line told.number

-- an item was counted if it is an entry, or its cells are no shape
abbrev pub CountsItem : Geometry → Counts → Counts → Item → Option EntryFault → Type 0
CountsItem g old new item None = CountsAll g old new (item ∷ [])
CountsItem g old new item (Some told) = (cells : List Cell) × IsEntryAt item told.line cells × ((fault : ShapeFault) × IsFault g cells fault × (told.number ≡ number_of fault))

-- ---- a table

pub record StopsAtFault (found more : List Item) (line number : ℕ) : Type 0 where
  pub grid : GridName
  pub of_grid : IsOfGrid grid (found ++ more)
  pub shapes : AreShapes (geometry_of grid) (entries_of found)
  pub first : HasFirstFault (geometry_of grid) more line number

abbrev pub CountsItems : Table → Table → List Item → Option EntryFault → Type 0
CountsItems old new more None = (found : List Item) → HasTable found old → AreReady found more → HasTable (found ++ more) new
CountsItems old new more (Some told) = (found : List Item) → HasTable found old → AreReady found more → StopsAtFault found more told.line told.number
