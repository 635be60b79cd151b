-- A scan: the lines of the entry at hand, and the bytes of the line at hand.
use Rattle.std.specs.Prelude.{◌≡◌, ◌⊎◌, ℕ, ◌+◌, ◌<◌, ◌^◌, List, [], ◌∷◌, ◌++◌, length, Bool, true, false, ◌==◌, ◌&&◌, ◌||◌, not, Option, Some, None, Result, Ok, Err}
use Rattle.heesch_text.specs.declared.line.Line.{Line}
use Rattle.heesch_text.specs.declared.line.Line.TheVariants as lines
use Rattle.heesch_text.specs.Lines.{words_of, text_of}
use Rattle.heesch_line.specs.Forms.{IsLine, HasNoNewline}
use Rattle.heesch_reader.specs.declared.item.Item.{Item}
use Rattle.heesch_reader.specs.declared.item.Item.TheVariants as items
use Rattle.heesch_reader.specs.declared.item.Part.{Part}
use Rattle.heesch_line.specs.declared.stops.LineStop.{LineStop}
use Rattle.heesch_line.specs.declared.stops.LineStop.TheVariants as stops
use Rattle.heesch_reader.specs.declared.progress.Progress.{Progress}
use Rattle.heesch_reader.specs.declared.progress.Progress.TheVariants as stages
use Rattle.heesch_reader.specs.declared.scan.Appended.{Appended}
use Rattle.heesch_reader.specs.declared.scan.Scan.{Scan}
use Rattle.heesch_reader.specs.Progress.{Lead, next, may_end, between}
use Rattle.heesch_reader.specs.Items.{Kept, lines_of, AreItemsAt, with_items, progress_of, none_appended}
use Rattle.heesch_reader.specs.Faults.{begins_next, part_of, MayNotStand}
use Rattle.heesch_reader.specs.Feeding.{BeginEntry, Stands, IsPrompt, IsShown, Refuses, RunsOut, FallsShort}

-- the number of shapes so far
abbrev pub shapes_of : Progress → ℕ
shapes_of stages.Start = 0
shapes_of (stages.Behind brief spot) = spot.shapes

-- the lines at hand are those of one entry at most, behind what was appended, and the line at hand has no newline
pub record IsScan (s : Scan) : Type 0 where
  pub lead : Lead (progress_of s.appended) s.lines.items s.progress
  pub one_entry : BeginEntry s.lines.items
  pub shapes : (s.lines.items ≡ []) ⊎ (shapes_of s.progress ≡ s.appended.entries + 1)
  pub one_line : HasNoNewline s.line.items
  pub fresh : s.appended.header ≡ None → s.appended ≡ none_appended
  pub room : s.appended.lines + length s.lines.items + 1 < 2 ^ 64

-- the bytes behind the last item that was appended
abbrev pub rest_of : Scan → List ℕ
rest_of s = text_of s.lines.items ++ s.line.items

-- a scan between two pieces
pub record MayGoOn (s : Scan) : Type 0 where
  pub is : IsScan s
  pub shown : IsShown s.appended (rest_of s)

-- a reader that has not refused has a scan that may go on
abbrev pub IsRefusedOrScan : Option (LineStop Part) → Scan → Type 0
IsRefusedOrScan None s = MayGoOn s
IsRefusedOrScan (Some stop) s = Unit {0}

-- what a reader with this scan keeps
abbrev pub kept_of : Option (LineStop Part) → Scan → Kept
kept_of refusal s = record { refusal = refusal; appended = s.appended; rest = rest_of s }

-- items were appended, and lines read: the lines of those items, then those at hand, are the lines that were at hand and those read;
-- behind an item just appended there is no line at hand
pub record Moves (s t : Scan) (before after : List Item) (read : List Line) : Type 0 where
  pub found : List Item
  pub after_is : after ≡ before ++ found
  pub appended : t.appended ≡ with_items s.appended found
  pub numbered : AreItemsAt s.appended.lines found
  pub split : s.lines.items ++ read ≡ lines_of found ++ t.lines.items
  pub apart : (found ≡ []) ⊎ (t.lines.items ≡ [])
  pub is : IsScan t

-- ---- an entry

-- the entry at hand was appended
pub record GivesEntry (s t : Scan) (before after : List Item) : Type 0 where
  pub moves : Moves s t before after []
  pub none_held : t.lines.items ≡ []
  pub one_more : t.appended.entries ≡ s.appended.entries + 1
  pub progress : t.progress ≡ between s.progress
  pub line : t.line.items ≡ s.line.items

-- it was appended where the bytes show that it is whole, and else nothing changed
abbrev pub Settles : Bool → Scan → Scan → List Item → List Item → Type 0
Settles true s t before after = GivesEntry s t before after
Settles false s t before after = (t ≡ s) × (after ≡ before)

-- ---- a line

-- what the entry at hand gains by a line
abbrev pub held_by : Line → List Line
held_by (lines.Header header) = []
held_by (lines.End count) = []
held_by line = line ∷ []

-- the item that a line is
abbrev pub given_by : Line → List Item
given_by (lines.Header header) = items.Header header ∷ []
given_by (lines.End count) = items.End count ∷ []
given_by line = []

-- a line was taken
pub record Advances (s t : Scan) (before after : List Item) (line : Line) (reached : Progress) : Type 0 where
  pub after_is : after ≡ before ++ given_by line
  pub appended : t.appended ≡ with_items s.appended (given_by line)
  pub lines : t.lines.items ≡ s.lines.items ++ held_by line
  pub progress : t.progress ≡ reached
  pub emptied : t.line.items ≡ []

-- the line at hand ended, and may stand
pub record Ends (s t : Scan) (before after : List Item) : Type 0 where
  pub read : Line
  pub form : IsLine read
  pub words : words_of read ≡ s.line.items
  pub may_stand : next s.progress read ≡ Some t.progress
  pub moves : Moves s t before after (read ∷ [])
  pub shown : IsShown s.appended (rest_of s) → IsShown t.appended (rest_of t)
  pub emptied : t.line.items ≡ []

-- the line at hand has this number
abbrev pub IsNumber : Scan → ℕ → Type 0
IsNumber s line = line ≡ s.appended.lines + length s.lines.items + 1

-- the line at hand ended, and may not stand
pub record Faults (s : Scan) (line : ℕ) (part : Part) : Type 0 where
  pub may_not : MayNotStand s.progress s.line.items
  pub number : IsNumber s line
  pub part_is : part ≡ part_of s.progress (s.line.items ++ 10 ∷ [])

abbrev pub EndsOrFaults : Scan → Scan → List Item → List Item → Result (Unit {0}) (LineStop Part) → Type 0
EndsOrFaults s t before after (Ok _) = Ends s t before after
EndsOrFaults s t before after (Err (stops.Fault line part)) = Faults s line part × (after ≡ before)
EndsOrFaults s t before after (Err stops.NoMemory) = after ≡ before

-- the answer where the line at hand is at fault
abbrev pub IsFaultOf : Scan → Result (Unit {0}) (LineStop Part) → Type 0
IsFaultOf s (Ok _) = ⊥
IsFaultOf s (Err (stops.Fault line part)) = IsNumber s line × (part ≡ part_of s.progress (s.line.items ++ 10 ∷ []))
IsFaultOf s (Err stops.NoMemory) = Unit {0}

-- ---- bytes of a line

-- the bytes stand last in the line at hand
pub record Pushes (s t : Scan) (bytes : List ℕ) : Type 0 where
  pub line : t.line.items ≡ s.line.items ++ bytes
  pub lines : t.lines ≡ s.lines
  pub progress : t.progress ≡ s.progress
  pub appended : t.appended ≡ s.appended

-- whether the bytes show that there is an entry at hand which is whole, where they end here or go on
abbrev pub shows_whole_where : (at_end : Bool) → Scan → Bool
shows_whole_where at_end s = (not (length s.lines.items == 0) && may_end s.progress) && ((at_end && length s.line.items == 0) || begins_next s.line.items)

-- where they may go on
abbrev pub shows_whole : Scan → Bool
shows_whole s = shows_whole_where false s

-- where they end here
abbrev pub shows_whole_at_end : Scan → Bool
shows_whole_at_end s = shows_whole_where true s

-- whether an end was read and no byte behind it
abbrev pub is_complete : Scan → Bool
is_complete s = s.appended.ended && length s.line.items == 0

-- a newline: the entry at hand is appended if it is whole, and the line at hand ends
pub record EndsLine (s t : Scan) (before after : List Item) : Type 0 where
  pub middle : Scan
  pub between : List Item
  pub settled : Settles (shows_whole s) s middle before between
  pub ended : Ends middle t between after

pub record FaultsLine (s : Scan) (before after : List Item) (line : ℕ) (part : Part) : Type 0 where
  pub middle : Scan
  pub settled : Settles (shows_whole s) s middle before after
  pub faults : Faults middle line part

-- the last bytes of a line stand in it, and then its newline ends it
abbrev pub TakesLine : Scan → Scan → List Item → List Item → List ℕ → Result (Unit {0}) (LineStop Part) → Type 0
TakesLine s t before after bytes (Ok _) = (filled : Scan) × Pushes s filled bytes × EndsLine filled t before after
TakesLine s t before after bytes (Err (stops.Fault line part)) = (filled : Scan) × Pushes s filled bytes × FaultsLine filled before after line part
TakesLine s t before after bytes (Err stops.NoMemory) = (after ≡ before) ⊎ ((filled : Scan) × Pushes s filled bytes × ((middle : Scan) × Settles (shows_whole filled) filled middle before after))

-- ---- many bytes

-- each line that ended may stand, and the second scan has what the bytes behind the first one's last item left
pub record Reaches (first : Appended) (t : Scan) (before after : List Item) (bytes : List ℕ) : Type 0 where
  pub found : List Item
  pub reached : Progress
  pub stands : Stands first bytes found t.lines.items t.line.items reached
  pub prompt : IsPrompt t.lines.items t.line.items reached
  pub appended : t.appended ≡ with_items first found
  pub after_is : after ≡ before ++ found
  pub is : MayGoOn t

abbrev pub ReachesOrRefused : Scan → Scan → List Item → List Item → List ℕ → Result (Unit {0}) (LineStop Part) → Type 0
ReachesOrRefused first t before after bytes (Ok _) = Reaches first.appended t before after bytes
ReachesOrRefused first t before after bytes (Err (stops.Fault line part)) = Refuses first.appended before after bytes line part
ReachesOrRefused first t before after bytes (Err stops.NoMemory) = RunsOut first.appended before after bytes

-- the bytes end: they are a whole catalogue, and the second scan has nothing left
pub record Completes (first : Appended) (t : Scan) (before after : List Item) (bytes : List ℕ) : Type 0 where
  pub found : List Item
  pub reached : Progress
  pub stands : Stands first bytes found [] [] reached
  pub appended : t.appended ≡ with_items first found
  pub after_is : after ≡ before ++ found
  pub ended : t.appended.ended ≡ true
  pub nothing_left : rest_of t ≡ []
  pub is : MayGoOn t

abbrev pub CompletesOrFallsShort : Scan → Scan → List Item → List Item → Result (Unit {0}) (LineStop Part) → Type 0
CompletesOrFallsShort first t before after (Ok _) = Completes first.appended t before after (rest_of first)
CompletesOrFallsShort first t before after (Err (stops.Fault line part)) = FallsShort first.appended before after (rest_of first) line part
CompletesOrFallsShort first t before after (Err stops.NoMemory) = after ≡ before
