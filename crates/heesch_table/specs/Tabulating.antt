-- What is answered of the input of a source.
use Rattle.std.specs.Prelude.{◌≡◌, ◌≤◌, ◌⊎◌, ℕ, List, [], ◌∷◌, ◌++◌, length, Option, Some, Bool, true, ⊤}
use Rattle.std.specs.List.{AllZip}
use Rattle.std.specs.Io.KnownBytes.{IsAtEnd}
use Rattle.heesch_grid.specs.declared.Cell.{Cell}
use Rattle.heesch_grid.specs.declared.GridName.{GridName}
use Rattle.heesch_grid.specs.Names.{geometry_of}
use Rattle.heesch_cert.specs.declared.verdict.Verdict.{Verdict}
use Rattle.heesch_text.specs.Lines.{text_of}
use Rattle.heesch_shape.specs.declared.faults.ShapeFault.{ShapeFault}
use Rattle.heesch_shape.specs.Faults.{IsFault, number_of}
use Rattle.heesch_reader.specs.declared.item.Item.{Item}
use Rattle.heesch_reader.specs.declared.item.Part.{Part}
use Rattle.heesch_reader.specs.declared.progress.Progress.{Progress}
use Rattle.heesch_reader.specs.declared.progress.Progress.TheVariants as stages
use Rattle.heesch_reader.specs.Progress.{Lead, may_end}
use Rattle.heesch_reader.specs.Faults.{begins_next}
use Rattle.heesch_reader.specs.Items.{lines_of, AreItemsAt}
use Rattle.heesch_io.specs.Input.{IsAllOf}
use Rattle.heesch_reader.specs.Taking.{Begins, IsCatalogue, HasFault, HasTooMany, input_max}
use Rattle.heesch_table.specs.Texts.{tally_text}
use Rattle.heesch_table.specs.declared.answers.Tabulated.{Tabulated}
use Rattle.heesch_table.specs.declared.answers.Tabulated.TheVariants as answers
use Rattle.heesch_table.specs.Entries.{entries_of, IsEntryAt, IsOfGrid, AreShapes, IsCounted}

-- the input, no longer than is read, is a whole catalogue, its entries are shapes of the header's grid, and the text is the tally of them all
pub record IsTallied (first : Option (List ℕ)) (text : List ℕ) : Type 0 where
  pub all : List Item
  pub read : IsCatalogue first all
  pub grid : GridName
  pub of_grid : IsOfGrid grid all
  pub shapes : AreShapes (geometry_of grid) (entries_of all)
  pub counted : List (Bool × Verdict)
  pub counts : AllZip (IsCounted (geometry_of grid)) (entries_of all) counted
  pub text_is : text ≡ tally_text counted

-- these items are whole at the front of the input: their lines may stand, an entry may end behind them, and there the next entry or the
-- end begins, or the input ends; the bytes that show it are among those that are read
pub record AreWholeAt (input : List ℕ) (found : List Item) : Type 0 where
  pub next : List ℕ
  pub behind : List ℕ
  pub reached : Progress
  pub split : input ≡ (text_of (lines_of found) ++ next) ++ behind
  pub few : length (text_of (lines_of found) ++ next) ≤ input_max
  pub lead : Lead stages.Start (lines_of found) reached
  pub numbered : AreItemsAt 0 found
  pub whole : may_end reached ≡ true
  pub shown : (begins_next next ≡ true) ⊎ ((next ≡ []) × (behind ≡ []))

-- the whole entry that begins on this line is the first whose cells are no shape of the header's grid, for the reason of this number
pub record HasShapeFault (first : Option (List ℕ)) (line number : ℕ) : Type 0 where
  pub input : List ℕ
  pub all_of : IsAllOf first input
  pub before : List Item
  pub item : Item
  pub whole : AreWholeAt input (before ++ item ∷ [])
  pub grid : GridName
  pub of_grid : IsOfGrid grid (before ++ item ∷ [])
  pub shapes : AreShapes (geometry_of grid) (entries_of before)
  pub cells : List Cell
  pub entry : IsEntryAt item line cells
  pub fault : ShapeFault
  pub is_fault : IsFault (geometry_of grid) cells fault
  pub number_is : number ≡ number_of fault

-- this line can't stand in a catalogue, as the bytes that are read show, and the entries that are whole before it are shapes
pub record HasTextFault (first : Option (List ℕ)) (line number : ℕ) : Type 0 where
  pub all : List Item
  pub part : Part
  pub fault : HasFault first all line part
  pub grid : GridName
  pub of_grid : IsOfGrid grid all
  pub shapes : AreShapes (geometry_of grid) (entries_of all)
  pub number_is : number ≡ 6

-- the input is too long, from this line on, and the entries that are whole before are shapes
pub record HasLengthFault (first : Option (List ℕ)) (line number : ℕ) : Type 0 where
  pub all : List Item
  pub too_many : HasTooMany first all line
  pub grid : GridName
  pub of_grid : IsOfGrid grid all
  pub shapes : AreShapes (geometry_of grid) (entries_of all)
  pub number_is : number ≡ 8

-- the first fault is on this line, and has this number
abbrev pub IsFaulty : Option (List ℕ) → (line number : ℕ) → Type 0
IsFaulty first line number = HasShapeFault first line number ⊎ HasTextFault first line number ⊎ HasLengthFault first line number

-- the answer fits the whole input of a source that had `first` left
abbrev pub IsTabulated : Option (List ℕ) → Tabulated → Type 0
IsTabulated first (answers.Tally text) = IsTallied first text.items
IsTabulated first (answers.Fault line number) = IsFaulty first line number

-- ---- statements

-- an input that has a tally has no fault
abbrev pub TalliesHaveNoFault : Type 0
TalliesHaveNoFault = (input text : List ℕ) (line number : ℕ) → IsTallied (Some input) text → IsFaulty (Some input) line number → ⊥

-- an input has one first fault at most
abbrev pub OneFault : Type 0
OneFault = (input : List ℕ) (line number at other : ℕ) → IsFaulty (Some input) line number → IsFaulty (Some input) at other → (line ≡ at) × (number ≡ other)

-- an input has one tally at most
abbrev pub OneTally : Type 0
OneTally = (input text other : List ℕ) → IsTallied (Some input) text → IsTallied (Some input) other → text ≡ other

-- ---- what is read of the source

-- the bytes, no more than are read, decide nothing yet: they begin a catalogue, and the entries that are whole in them are shapes
pub record DecideNothing (bytes : List ℕ) : Type 0 where
  pub few : length bytes ≤ input_max
  pub all : List Item
  pub begins : Begins bytes all
  pub grid : GridName
  pub of_grid : IsOfGrid grid all
  pub shapes : AreShapes (geometry_of grid) (entries_of all)

-- a tally comes at the end of the input alone
abbrev pub EndsAtTally : Option (List ℕ) → Tabulated → Type 0
EndsAtTally now (answers.Tally text) = IsAtEnd now
EndsAtTally now (answers.Fault line number) = ⊤
