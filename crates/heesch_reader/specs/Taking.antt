-- What a stream has read, and what one more step answers.
use Rattle.std.specs.Prelude.{◌≡◌, ◌⊎◌, ℕ, ◌+◌, ◌<◌, ◌≤◌, List, [], ◌∷◌, ◌++◌, length, Option, None, Some, Result, Ok, Err}
use Rattle.std.specs.Io.KnownBytes.{Consumes, IsAtEnd, Keeps}
use Rattle.heesch_io.specs.Causes.{Rose}
use Rattle.heesch_text.specs.declared.line.Line.{Line}
use Rattle.heesch_text.specs.Lines.{text_of}
use Rattle.heesch_line.specs.Forms.{HasNoNewline}
use Rattle.heesch_reader.specs.declared.item.Item.{Item}
use Rattle.heesch_reader.specs.declared.item.Part.{Part}
use Rattle.heesch_line.specs.declared.stops.LineStop.{LineStop}
use Rattle.heesch_reader.specs.declared.progress.Progress.{Progress}
use Rattle.heesch_reader.specs.Items.{Kept, with_items, none_appended}
use Rattle.heesch_reader.specs.Feeding.{Stands, IsPrompt, IsShown, Refuses, FallsShort, RunsOut}
use Rattle.heesch_reader.specs.declared.answers.Taken.{Taken}
use Rattle.heesch_reader.specs.declared.answers.Taken.TheVariants as takens
use Rattle.heesch_reader.specs.declared.answers.StreamStop.{StreamStop}
use Rattle.heesch_reader.specs.declared.answers.StreamStop.TheVariants as stops
use Rattle.heesch_io.specs.Input.{IsAllOf, piece_max}
use Rattle.heesch_reader.specs.Answers.{stop_of}
use Rattle.heesch_reader.specs.Input.{newlines, IsWholeCatalogue}

-- the most bytes that are read
abbrev pub input_max : ℕ
input_max = 1099511627776

-- what a stream is known by: what its reader keeps, the number of bytes that were read, and the line that the next byte is on
pub record Streamed : Type 0 where
  pub kept : Kept
  pub count : ℕ
  pub line : ℕ

-- no more is read than may be, the reader's refusal is known, and where it has none it keeps no more lines and bytes than were read
pub record IsStream (refusal : Option (LineStop Part)) (kept : Kept) (count line : ℕ) : Type 0 where
  pub at_most : count ≤ input_max
  pub few_lines : line ≤ count + 1
  pub same_refusal : kept.refusal ≡ refusal
  pub room : refusal ≡ None → kept.appended.lines + length kept.rest ≤ count

-- ---- what was read

-- the bytes begin a catalogue: they are the text of these items, then lines of one entry, then a line without its newline;
-- all of those lines may stand, and no item that is whole is missing
pub record Begins (bytes : List ℕ) (found : List Item) : Type 0 where
  pub held : List Line
  pub left : List ℕ
  pub reached : Progress
  pub stands : Stands none_appended bytes found held left reached
  pub one_line : HasNoNewline left
  pub prompt : IsPrompt held left reached
  pub shown : IsShown (with_items none_appended found) (text_of held ++ left)

-- what the reader keeps behind them
abbrev pub kept_behind : (bytes : List ℕ) (found : List Item) → Begins bytes found → Kept
kept_behind bytes found begins = record { refusal = None; appended = with_items none_appended found; rest = text_of begins.held ++ begins.left }

-- Since the source had `first` left, bytes were read that begin a catalogue, with these whole items, and now it has `now` left.
-- (Nothing ties the bytes to a source that doesn't tell what it has left.)
pub record HasRead (first now : Option (List ℕ)) (found : List Item) (s : Streamed) : Type 0 where
  pub bytes : List ℕ
  pub consumed : Consumes first now bytes
  pub begins : Begins bytes found
  pub kept_is : s.kept ≡ kept_behind bytes found begins
  pub count_is : s.count ≡ length bytes
  pub at_most : length bytes ≤ input_max
  pub line_is : s.line ≡ newlines bytes + 1

-- ---- what a step answers

-- bytes were read, and the items that are whole by now were appended
pub record TakesPiece (before now : Option (List ℕ)) (old new : Streamed) (items after : List Item) : Type 0 where
  pub more : List Item
  pub after_is : after ≡ items ++ more
  pub grows : old.count < new.count
  pub has_read : (first : Option (List ℕ)) (found : List Item) → HasRead first before found old → HasRead first now (found ++ more) new

-- the whole input, no longer than is read, is a whole catalogue with these items
pub record IsCatalogue (first : Option (List ℕ)) (all : List Item) : Type 0 where
  pub input : List ℕ
  pub all_of : IsAllOf first input
  pub few : length input ≤ input_max
  pub catalogue : IsWholeCatalogue input all

-- the input ended, and is a whole catalogue
pub record TakesEnd (before : Option (List ℕ)) (old : Streamed) (items after : List Item) : Type 0 where
  pub more : List Item
  pub after_is : after ≡ items ++ more
  pub catalogue : (first : Option (List ℕ)) (found : List Item) → HasRead first before found old → IsCatalogue first (found ++ more)

-- this line is the first that can't stand in a catalogue, and these items are whole before it; the bytes at the front of the input
-- show it, as many as are read, or all of them
pub record HasFault (first : Option (List ℕ)) (all : List Item) (line : ℕ) (part : Part) : Type 0 where
  pub input : List ℕ
  pub all_of : IsAllOf first input
  pub front : List ℕ
  pub behind : List ℕ
  pub split : input ≡ front ++ behind
  pub few : length front ≤ input_max
  pub fault : Refuses none_appended [] all front line part ⊎ (FallsShort none_appended [] all front line part × (behind ≡ []))

-- the input is no catalogue from this line on, and the items that are whole before it were appended
pub record TellsFault (before : Option (List ℕ)) (old : Streamed) (items after : List Item) (line : ℕ) (part : Part) : Type 0 where
  pub more : List Item
  pub after_is : after ≡ items ++ more
  pub fault : (first : Option (List ℕ)) (found : List Item) → HasRead first before found old → HasFault first (found ++ more) line part

-- the first bytes of the whole input, as many as are read, begin a catalogue with these items, and one more byte follows, on this line
pub record HasTooMany (first : Option (List ℕ)) (all : List Item) (line : ℕ) : Type 0 where
  pub input : List ℕ
  pub all_of : IsAllOf first input
  pub front : List ℕ
  pub byte : ℕ
  pub behind : List ℕ
  pub split : input ≡ front ++ byte ∷ behind
  pub most : length front ≡ input_max
  pub begins : Begins front all
  pub line_is : line ≡ newlines front + 1

-- the input is too long, nothing was appended, and the stream keeps what it did
pub record TellsTooLong (before : Option (List ℕ)) (old new : Streamed) (items after : List Item) (line : ℕ) : Type 0 where
  pub after_is : after ≡ items
  pub same : new ≡ old
  pub too_many : (first : Option (List ℕ)) (found : List Item) → HasRead first before found old → (t : HasTooMany first found line) × (new.kept ≡ kept_behind t.front found t.begins)

-- the source failed: no byte was read, nothing was appended, and the stream keeps what it did
pub record TellsFailed (before now : Option (List ℕ)) (failed fails : ℕ) (old new : Streamed) (items after : List Item) : Type 0 where
  pub rose : Rose failed fails
  pub unread : Keeps before now
  pub same : new ≡ old
  pub after_is : after ≡ items

-- the input is these bytes at its front, no more than are read, and those behind them
pub record IsSplit (first : Option (List ℕ)) (front behind : List ℕ) : Type 0 where
  pub all_of : IsAllOf first (front ++ behind)
  pub few : length front ≤ input_max

-- bytes at the front of the input, no more than are read, begin with the text of these items, and those behind it show that they are whole
pub record HasWhole (first : Option (List ℕ)) (all : List Item) : Type 0 where
  pub front : List ℕ
  pub behind : List ℕ
  pub split : IsSplit first front behind
  pub whole : RunsOut none_appended [] all front

-- memory was refused, and the first of the items that are whole behind those read before were appended, or none
pub record RunsOutOfMemory (before : Option (List ℕ)) (old : Streamed) (items after : List Item) : Type 0 where
  pub more : List Item
  pub after_is : after ≡ items ++ more
  pub whole : (first : Option (List ℕ)) (found : List Item) → HasRead first before found old → HasWhole first (found ++ more)

-- the answer to one step, by what the source had left and has, and how often it had failed and has
abbrev pub TakeResult : (before now : Option (List ℕ)) (failed fails : ℕ) (old new : Streamed) (items after : List Item) → Result Taken StreamStop → Type 0
TakeResult before now failed fails old new items after (Ok takens.Piece) = TakesPiece before now old new items after
TakeResult before now failed fails old new items after (Ok takens.End) = TakesEnd before old items after
TakeResult before now failed fails old new items after (Err (stops.NotText line part)) = TellsFault before old items after line part
TakeResult before now failed fails old new items after (Err (stops.TooLong line)) = TellsTooLong before old new items after line
TakeResult before now failed fails old new items after (Err stops.Failed) = TellsFailed before now failed fails old new items after
TakeResult before now failed fails old new items after (Err stops.NoMemory) = RunsOutOfMemory before old items after

-- where the reader refuses, the stream keeps that refusal
abbrev pub KeepsRefusal : {A : Type 0} → Result A StreamStop → Streamed → Type 0
KeepsRefusal result new = (stop : LineStop Part) → result ≡ Err (stop_of stop) → new.kept.refusal ≡ Some stop

-- a stream that keeps a refusal answers it for good: no byte is read, nothing is appended, and it keeps what it did
abbrev pub StaysRefused : (before now : Option (List ℕ)) (old new : Streamed) (items after : List Item) → Result Taken StreamStop → Type 0
StaysRefused before now old new items after result = (stop : LineStop Part) → old.kept.refusal ≡ Some stop → (result ≡ Err (stop_of stop)) × Keeps before now × (new ≡ old) × (after ≡ items)

-- a step consumes one piece
abbrev pub TakesOnePiece : (before now : Option (List ℕ)) → Type 0
TakesOnePiece before now = (piece : List ℕ) × Consumes before now piece × (length piece ≤ piece_max)

-- ---- the steps inside

-- the answer to a piece
abbrev pub FeedsPiece : (old new : Streamed) (items after : List Item) (piece : List ℕ) → Result (Unit {0}) StreamStop → Type 0
FeedsPiece old new items after piece (Ok _) = (before now : Option (List ℕ)) → 0 < length piece → Consumes before now piece → TakesPiece before now old new items after
FeedsPiece old new items after piece (Err (stops.NotText line part)) = (before now : Option (List ℕ)) → Consumes before now piece → TellsFault before old items after line part
FeedsPiece old new items after piece (Err (stops.TooLong line)) = ⊥
FeedsPiece old new items after piece (Err stops.Failed) = ⊥
FeedsPiece old new items after piece (Err stops.NoMemory) = (before now : Option (List ℕ)) → Consumes before now piece → RunsOutOfMemory before old items after

-- the answer to the end of the bytes
abbrev pub FinishesAll : (old : Streamed) (items after : List Item) → Result Taken StreamStop → Type 0
FinishesAll old items after (Ok takens.Piece) = ⊥
FinishesAll old items after (Ok takens.End) = (before : Option (List ℕ)) → IsAtEnd before → TakesEnd before old items after
FinishesAll old items after (Err (stops.NotText line part)) = (before : Option (List ℕ)) → IsAtEnd before → TellsFault before old items after line part
FinishesAll old items after (Err (stops.TooLong line)) = ⊥
FinishesAll old items after (Err stops.Failed) = ⊥
FinishesAll old items after (Err stops.NoMemory) = (before : Option (List ℕ)) → IsAtEnd before → RunsOutOfMemory before old items after
