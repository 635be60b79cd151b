-- What a reader answers to a piece, and to the end of the bytes.
use Rattle.std.specs.Prelude.{◌≡◌, ◌≢◌, ◌⊎◌, ℕ, ◌+◌, ◌<◌, ◌≤◌, List, [], ◌∷◌, ◌++◌, length, true, false, Option, Some, None, Result, Ok, Err}
use Rattle.std.specs.List.{AllByRecursion}
use Rattle.heesch_text.specs.declared.line.Line.{Line}
use Rattle.heesch_text.specs.declared.line.Line.TheVariants as lines
use Rattle.heesch_text.specs.Lines.{text_of}
use Rattle.heesch_line.specs.Forms.{IsShape, HasNoNewline}
use Rattle.heesch_reader.specs.declared.item.Item.{Item}
use Rattle.heesch_reader.specs.declared.item.Part.{Part}
use Rattle.heesch_line.specs.declared.stops.LineStop.{LineStop}
use Rattle.heesch_line.specs.declared.stops.LineStop.TheVariants as stops
use Rattle.heesch_reader.specs.declared.progress.Progress.{Progress}
use Rattle.heesch_reader.specs.declared.scan.Appended.{Appended}
use Rattle.heesch_reader.specs.Progress.{Lead, walk, may_end, between}
use Rattle.heesch_reader.specs.Items.{Kept, lines_of, AreItemsAt, with_items, progress_of}
use Rattle.heesch_reader.specs.Faults.{begins_next, part_of, FaultsAt}

-- the line stands inside an entry, behind its shape
abbrev pub IsInside : Line → Type 0
IsInside (lines.Header header) = ⊥
IsInside (lines.Shape cells) = ⊥
IsInside (lines.End count) = ⊥
IsInside line = Unit {0}

-- the lines are those at the front of one entry, or none
abbrev pub BeginEntry : List Line → Type 0
BeginEntry [] = Unit {0}
BeginEntry (line ∷ ls) = IsShape line × AllByRecursion IsInside ls

-- an entry may end there, and a reader goes on as between two entries
pub record IsBehindEntry (p : Progress) (a : Appended) : Type 0 where
  pub whole : may_end p ≡ true
  pub between : between p ≡ progress_of a
  pub some : 0 < a.entries
  pub unended : a.ended ≡ false

-- the lines of the items lead to the place that a reader goes on from, or to one where the last entry may end
pub record ItemsLead (old : Appended) (found : List Item) : Type 0 where
  pub behind : Progress
  pub walked : walk (progress_of old) (lines_of found) ≡ Some behind
  pub alike : (behind ≡ progress_of (with_items old found)) ⊎ IsBehindEntry behind (with_items old found)

-- the bytes are the text of these items, then lines of one entry, then the bytes left; all of those lines may stand
pub record Stands (old : Appended) (bytes : List ℕ) (found : List Item) (held : List Line) (left : List ℕ) (reached : Progress) : Type 0 where
  pub text : bytes ≡ text_of (lines_of found ++ held) ++ left
  pub lead : Lead (progress_of old) (lines_of found ++ held) reached
  pub numbered : AreItemsAt old.lines found
  pub one_entry : BeginEntry held
  pub items_lead : ItemsLead old found

-- no whole item is held back: where an entry may end, the bytes left don't show that the next one begins
abbrev pub IsPrompt : List Line → List ℕ → Progress → Type 0
IsPrompt held left reached = may_end reached ≡ true → begins_next left ≡ true → held ≡ []

-- behind an entry, and before an end, the bytes left show that the next entry or the end begins
abbrev pub IsShown : Appended → List ℕ → Type 0
IsShown a rest = 0 < a.entries → a.ended ≡ false → begins_next rest ≡ true

-- each line that ended may stand: the items that are whole were appended, and the rest is what follows them
pub record Takes (old new : Kept) (before after : List Item) (bytes : List ℕ) : Type 0 where
  pub found : List Item
  pub held : List Line
  pub left : List ℕ
  pub reached : Progress
  pub stands : Stands old.appended bytes found held left reached
  pub one_line : HasNoNewline left
  pub prompt : IsPrompt held left reached
  pub after_is : after ≡ before ++ found
  pub new_is : new ≡ record { refusal = None; appended = with_items old.appended found; rest = text_of held ++ left }
  pub shown : IsShown new.appended new.rest

-- the line of this number is the first that ended and may not stand: the items that are whole before it were appended
pub record Refuses (old : Appended) (before after : List Item) (bytes : List ℕ) (line : ℕ) (part : Part) : Type 0 where
  pub found : List Item
  pub held : List Line
  pub left : List ℕ
  pub reached : Progress
  pub stands : Stands old bytes found held left reached
  pub fault : FaultsAt reached left part
  pub prompt : IsPrompt held fault.words reached
  pub shown : IsShown (with_items old found) (text_of held ++ left)
  pub line_is : line ≡ old.lines + length (lines_of found ++ held) + 1
  pub after_is : after ≡ before ++ found

-- memory was refused: the items that were whole by then were appended. Their text stands at the front of the bytes, and those behind
-- it show that they are whole
pub record RunsOut (old : Appended) (before after : List Item) (bytes : List ℕ) : Type 0 where
  pub found : List Item
  pub behind : List ℕ
  pub reached : Progress
  pub stands : Stands old bytes found [] behind reached
  pub shown : IsShown (with_items old found) behind
  pub after_is : after ≡ before ++ found

-- what a reader that hasn't refused makes of the bytes behind its last item
abbrev pub FeedFresh : Kept → Kept → List Item → List Item → List ℕ → Result (Unit {0}) (LineStop Part) → Type 0
FeedFresh old new before after bytes (Ok _) = Takes old new before after bytes
FeedFresh old new before after bytes (Err (stops.Fault line part)) = Refuses old.appended before after bytes line part × (new.refusal ≡ Some (stops.Fault line part))
FeedFresh old new before after bytes (Err stops.NoMemory) = RunsOut old.appended before after bytes × (new.refusal ≡ Some stops.NoMemory)

-- a refusal stays, and nothing changes
abbrev pub StaysRefused : LineStop Part → Kept → Kept → List Item → List Item → Result (Unit {0}) (LineStop Part) → Type 0
StaysRefused stop old new before after result = (result ≡ Err stop) × (new ≡ old) × (after ≡ before)

abbrev pub FeedFrom : Option (LineStop Part) → Kept → Kept → List Item → List Item → List ℕ → Result (Unit {0}) (LineStop Part) → Type 0
FeedFrom (Some stop) old new before after bytes result = StaysRefused stop old new before after result
FeedFrom None old new before after bytes result = FeedFresh old new before after bytes result

-- the answer to a piece
abbrev pub FeedResult : Kept → Kept → List Item → List Item → List ℕ → Result (Unit {0}) (LineStop Part) → Type 0
FeedResult old new before after piece result = FeedFrom old.refusal old new before after (old.rest ++ piece) result

-- ---- the end of the bytes

-- the bytes are the text of items, the last of which is the end
pub record Finishes (old new : Kept) (before after : List Item) (bytes : List ℕ) : Type 0 where
  pub found : List Item
  pub reached : Progress
  pub stands : Stands old.appended bytes found [] [] reached
  pub after_is : after ≡ before ++ found
  pub new_is : new ≡ record { refusal = None; appended = with_items old.appended found; rest = [] }
  pub ended : new.appended.ended ≡ true

-- no whole item is held back at the end of the bytes, which shows too that an entry is whole
abbrev pub IsPromptAtEnd : List Line → List ℕ → Progress → Type 0
IsPromptAtEnd held left reached = IsPrompt held left reached × (may_end reached ≡ true → left ≡ [] → held ≡ [])

-- behind an entry, and before an end, the bytes left are none, or show that the next entry or the end begins
abbrev pub IsShownAtEnd : Appended → List ℕ → Type 0
IsShownAtEnd a rest = 0 < a.entries → a.ended ≡ false → (rest ≡ []) ⊎ (begins_next rest ≡ true)

-- each line that ended may stand, but the bytes left are a line without its newline, or no end was read
pub record FallsShort (old : Appended) (before after : List Item) (bytes : List ℕ) (line : ℕ) (part : Part) : Type 0 where
  pub found : List Item
  pub held : List Line
  pub left : List ℕ
  pub reached : Progress
  pub stands : Stands old bytes found held left reached
  pub one_line : HasNoNewline left
  pub prompt : IsPromptAtEnd held left reached
  pub shown : IsShownAtEnd (with_items old found) (text_of held ++ left)
  pub short : (left ≢ []) ⊎ ((with_items old found).ended ≡ false)
  pub line_is : line ≡ old.lines + length (lines_of found ++ held) + 1
  pub part_is : part ≡ part_of reached left
  pub after_is : after ≡ before ++ found

abbrev pub FinishFresh : Kept → Kept → List Item → List Item → List ℕ → Result (Unit {0}) (LineStop Part) → Type 0
FinishFresh old new before after bytes (Ok _) = Finishes old new before after bytes
FinishFresh old new before after bytes (Err (stops.Fault line part)) = FallsShort old.appended before after bytes line part × (new.refusal ≡ Some (stops.Fault line part))
FinishFresh old new before after bytes (Err stops.NoMemory) = (after ≡ before) × (new.refusal ≡ Some stops.NoMemory)

abbrev pub FinishFrom : Option (LineStop Part) → Kept → Kept → List Item → List Item → List ℕ → Result (Unit {0}) (LineStop Part) → Type 0
FinishFrom (Some stop) old new before after bytes result = StaysRefused stop old new before after result
FinishFrom None old new before after bytes result = FinishFresh old new before after bytes result

-- the answer to the end of the bytes
abbrev pub FinishResult : Kept → Kept → List Item → List Item → Result (Unit {0}) (LineStop Part) → Type 0
FinishResult old new before after result = FinishFrom old.refusal old new before after old.rest result

-- the two answers to the end of the bytes exclude each other: a whole catalogue doesn't fall short of one
abbrev pub WholeTextsFallNotShort : Type 0
WholeTextsFallNotShort = (old new : Kept) (before after other : List Item) (bytes : List ℕ) (line : ℕ) (part : Part) → Finishes old new before after bytes → FallsShort old.appended before other bytes line part → ⊥

-- behind a piece that was taken, the lines appended and the rest are no more than the lines and the bytes before
abbrev pub PiecesLeaveRoom : Type 0
PiecesLeaveRoom = (old new : Kept) (before after : List Item) (bytes : List ℕ) → Takes old new before after bytes → new.appended.lines + length new.rest ≤ old.appended.lines + length bytes
