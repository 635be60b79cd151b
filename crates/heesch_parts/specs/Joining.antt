-- What a joiner keeps of the bytes that it was fed.
use Rattle.std.specs.Prelude.{◌≡◌, ◌⊎◌, ℕ, ◌+◌, ◌≤◌, ◌<◌, ◌^◌, List, [], ◌∷◌, ◌++◌, length, map, Option, Some, None, Bool, true, false, Result, Ok, Err, ⊤}
use Rattle.std.specs.List.{AllByRecursion, flat_map}
use Rattle.heesch_cert.specs.declared.header.Header.{Header}
use Rattle.heesch_cert.specs.declared.entry.Entry.{Entry}
use Rattle.heesch_text.specs.declared.line.Line.{Line}
use Rattle.heesch_text.specs.declared.line.Line.TheVariants as lines
use Rattle.heesch_text.specs.Catalogue.{entry_lines}
use Rattle.heesch_line.specs.Forms.{IsLine, HasNoNewline}
use Rattle.heesch_grammar.specs.declared.place.Place.TheVariants as places
use Rattle.heesch_grammar.specs.declared.spot.Spot.{Spot}
use Rattle.heesch_grammar.specs.Grammar.{steps}
use Rattle.heesch_grammar.specs.Statements.{catalogue_lines}
use Rattle.heesch_reader.specs.declared.item.Item.{Item}
use Rattle.heesch_reader.specs.declared.item.Item.TheVariants as items
use Rattle.heesch_reader.specs.declared.progress.Progress.{Progress}
use Rattle.heesch_reader.specs.declared.progress.Progress.TheVariants as stages
use Rattle.heesch_parts.specs.declared.part_line.PartLine.{PartLine}
use Rattle.heesch_parts.specs.declared.part_line.PartLine.TheVariants as parts
use Rattle.heesch_parts.specs.declared.stage.Stage.{Stage}
use Rattle.heesch_parts.specs.PartLines.{IsPartLine, parts_text}
use Rattle.heesch_parts.specs.Stages.{start, Walk}
use Rattle.heesch_parts.specs.Shares.{IsEntry, IsShareHeader, AreShares, entries_of, items_behind, line_count, share_items, joined_items}
use Rattle.heesch_line.specs.declared.stops.LineStop.{LineStop}
use Rattle.heesch_line.specs.declared.stops.LineStop.TheVariants as stops
use Rattle.heesch_parts.specs.declared.scan.Scan.{Scan}
use Rattle.heesch_parts.specs.Faults.{HasFault}
use Rattle.heesch_grammar.specs.Entries.{AreEntryLines, HoldsItsLines}

-- ---- the lines of shares

-- the header's line, once it stood
abbrev pub header_line : Option Header → List Line
header_line None = []
header_line (Some header) = lines.Header header ∷ []

-- how many shares there are, once a `share` line stood
abbrev pub shares_of : Option ℕ → ℕ
shares_of None = 0
shares_of (Some k) = k

-- the lines of share i of k
abbrev pub share_lines : (i k : ℕ) → Option Header → List Entry → List PartLine
share_lines i k header entries = parts.Share i k ∷ map parts.Catalogue (header_line header ++ catalogue_lines entry_lines entries)

-- the lines of whole shares, the first of which has the number i
abbrev pub whole_lines : (i k : ℕ) → Option Header → List (List Entry) → List PartLine
whole_lines i k header [] = []
whole_lines i k header (entries ∷ shares) = share_lines i k header entries ++ whole_lines (i + 1) k header shares

-- the lines of the share that isn't whole, of which these stood behind its header
abbrev pub begun_lines : Option Progress → (i k : ℕ) → Option Header → List Line → List PartLine
begun_lines None i k header ls = []
begun_lines (Some stages.Start) i k header ls = parts.Share i k ∷ []
begun_lines (Some (stages.Behind brief spot)) i k header ls = parts.Share i k ∷ map parts.Catalogue (header_line header ++ ls)

-- the number of lines of whole shares
abbrev pub lines_before : List (List Entry) → ℕ
lines_before [] = 0
lines_before (entries ∷ shares) = line_count entries + lines_before shares

-- ---- the share at hand

-- behind the header of the share at hand: these entries of it are whole, and these lines of another one stand
pub record IsBehind (entries : List Entry) (held : List Line) (s : Stage) (spot : Spot) : Type 0 where
  pub reached : steps false (record { shapes = length entries; place = places.Between }) held ≡ Some spot
  pub shapes : (held ≡ []) ⊎ (spot.shapes ≡ length entries + 1)

-- nothing stands behind the share's header
pub record HasNone (entries : List Entry) (held : List Line) : Type 0 where
  pub no_entry : entries ≡ []
  pub no_line : held ≡ []

-- the number of shapes of the share that isn't whole
abbrev pub shapes_in : Option Progress → ℕ
shapes_in (Some (stages.Behind brief spot)) = spot.shapes
shapes_in progress = 0

-- how many shares are whole, and what stands of the next one
abbrev pub IsAtHand : Option Progress → (whole : ℕ) → List Entry → List Line → Stage → Type 0
IsAtHand None whole entries held s = (s.share ≡ whole) × HasNone entries held
IsAtHand (Some stages.Start) whole entries held s = (s.share ≡ whole + 1) × HasNone entries held
IsAtHand (Some (stages.Behind brief spot)) whole entries held s = (s.share ≡ whole + 1) × (brief ≡ false) × IsBehind entries held s spot

-- no header of the share at hand stood
abbrev pub AwaitsHeader : Option Progress → Type 0
AwaitsHeader (Some (stages.Behind brief spot)) = ⊥
AwaitsHeader progress = Unit {0}

-- the header is known, or none stood yet
abbrev pub IsHeaderOf : Option Header → List (List Entry) → Option Progress → Type 0
IsHeaderOf None whole progress = (whole ≡ []) × AwaitsHeader progress
IsHeaderOf (Some header) whole progress = IsShareHeader header

-- the number of shares is known, or no `share` line stood yet
abbrev pub IsCountOf : Option ℕ → (share : ℕ) → List (List Entry) → Option Progress → Type 0
IsCountOf None share whole progress = (whole ≡ []) × (progress ≡ None)
IsCountOf (Some k) share whole progress = (1 ≤ share) × (share ≤ k) × (k ≤ 1000)

-- ---- what the lines made

-- the header's item, once it stood
abbrev pub header_item : Option Header → List Item
header_item None = []
header_item (Some header) = items.Header header ∷ []

-- the lines are those of whole shares, and of one that isn't whole; the items are the header and their whole entries
pub record AreBuilt (ls : List PartLine) (s : Stage) (held : List Line) (given : List Item) : Type 0 where
  pub whole : List (List Entry)
  pub entries : List Entry
  pub lines : ls ≡ whole_lines 1 (shares_of s.shares) s.header whole ++ begun_lines s.progress s.share (shares_of s.shares) s.header (flat_map entry_lines entries ++ held)
  pub given_are : given ≡ header_item s.header ++ (share_items 0 whole ++ items_behind (lines_before whole + 2) entries)
  pub counted : IsCountOf s.shares s.share whole s.progress
  pub header : IsHeaderOf s.header whole s.progress
  pub at_hand : IsAtHand s.progress (length whole) entries held s
  pub each : AllByRecursion (AllByRecursion IsEntry) whole
  pub each_of_last : AllByRecursion IsEntry entries
  pub held_forms : AllByRecursion IsLine held
  pub all : s.entries ≡ length (entries_of whole) + shapes_in s.progress
  pub most : s.entries ≤ 4294967295

-- what a joiner keeps: the stage that the lines led to, the lines of the entry that isn't whole, the bytes of the line that didn't end, and the number of lines that ended
pub record Kept : Type 0 where
  pub stage : Stage
  pub held : List Line
  pub left : List ℕ
  pub lines : ℕ

-- these bytes were fed, the lines that ended may stand, and these items were appended
pub record IsFed (bytes : List ℕ) (given : List Item) (kept : Kept) : Type 0 where
  pub ended : List PartLine
  pub text : bytes ≡ parts_text ended ++ kept.left
  pub one_line : HasNoNewline kept.left
  pub forms : AllByRecursion IsPartLine ended
  pub walk : Walk start ended kept.stage
  pub count : kept.lines ≡ length ended
  pub built : AreBuilt ended kept.stage kept.held given

-- the number of the line at hand fits 64 bits
abbrev pub HasRoom : Kept → Type 0
HasRoom kept = kept.lines + 1 < 2 ^ 64

-- a joiner may go on
abbrev pub MayGoOn : Kept → Type 0
MayGoOn kept = (bytes : List ℕ) × (given : List Item) × IsFed bytes given kept × HasRoom kept

-- a joiner that hasn't refused may go on
abbrev pub MayGoOnUnless : Option (LineStop ℕ) → Kept → Type 0
MayGoOnUnless None kept = MayGoOn kept
MayGoOnUnless (Some stop) kept = Unit {0}

-- what a joiner is known by: its refusal if it has one, and what it keeps
pub record Joining : Type 0 where
  pub refusal : Option (LineStop ℕ)
  pub kept : Kept

-- no more lines and bytes are kept than before, with so many more
abbrev pub LeavesRoom : (old new : Kept) (more : ℕ) → Type 0
LeavesRoom old new more = new.lines + length new.left ≤ old.lines + length old.left + more

-- what a scan keeps
abbrev pub kept_of : Scan → Kept
kept_of s = record { stage = s.stage; held = s.held.items; left = s.line.items; lines = s.lines }

-- ---- what is answered

-- items were appended to those that were given for the bytes before, and these are now the bytes that were fed
pub record GoesTo (bytes : List ℕ) (given before after : List Item) (kept : Kept) : Type 0 where
  pub more : List Item
  pub after_is : after ≡ before ++ more
  pub fed : IsFed bytes (given ++ more) kept

-- the refusal behind an answer
abbrev pub refusal_of : Result (Unit {0}) (LineStop ℕ) → Option (LineStop ℕ)
refusal_of (Ok _) = None
refusal_of (Err stop) = Some stop

-- the answer of a joiner that refused, for good
abbrev pub StaysRefused : LineStop ℕ → (old new : Joining) (before after : List Item) → Result (Unit {0}) (LineStop ℕ) → Type 0
StaysRefused stop old new before after result = (result ≡ Err stop) × (new ≡ old) × (after ≡ before)

-- each text that begins with these bytes has the fault, if all of them are read
abbrev pub IsFrontStop : List ℕ → LineStop ℕ → Type 0
IsFrontStop front (stops.Fault line fault) = (most : ℕ) (rest : List ℕ) → length front ≤ most → HasFault most (front ++ rest) line fault
IsFrontStop front stops.NoMemory = ⊤

-- the bytes before the newline of the faulty line were fed, and the items that are whole by then were appended
pub record StopsBefore (bytes : List ℕ) (given before after : List Item) (kept : Kept) : Type 0 where
  pub seen : List ℕ
  pub unseen : List ℕ
  pub split : bytes ≡ seen ++ 10 ∷ unseen
  pub goes : GoesTo seen given before after kept

-- memory was refused behind some of the bytes, from the first on, and the items that are whole by then were appended
pub record StopsWithin (bytes : List ℕ) (given before after : List Item) : Type 0 where
  pub seen : List ℕ
  pub unseen : List ℕ
  pub split : bytes ≡ seen ++ unseen
  pub kept : Kept
  pub goes : GoesTo seen given before after kept

-- what was appended before the stop
abbrev pub AppendsUntil : List ℕ → (given before after : List Item) → Kept → LineStop ℕ → Type 0
AppendsUntil bytes given before after kept (stops.Fault line fault) = StopsBefore bytes given before after kept
AppendsUntil bytes given before after kept stops.NoMemory = StopsWithin bytes given before after

-- the answer to these bytes
abbrev pub FeedsTo : List ℕ → (given before after : List Item) → Kept → Result (Unit {0}) (LineStop ℕ) → Type 0
FeedsTo bytes given before after kept (Ok _) = GoesTo bytes given before after kept
FeedsTo bytes given before after kept (Err stop) = IsFrontStop bytes stop × AppendsUntil bytes given before after kept stop

-- the bytes are those of shares; with the end, which was appended, the items are those of the joined catalogue
pub record Joins (bytes : List ℕ) (given before after : List Item) : Type 0 where
  pub header : Header
  pub shares : List (List Entry)
  pub are : AreShares bytes header shares
  pub more : List Item
  pub after_is : after ≡ before ++ more
  pub joined : given ++ more ≡ joined_items header shares

-- the text has the fault
abbrev pub IsWholeStop : List ℕ → LineStop ℕ → Type 0
IsWholeStop text (stops.Fault line fault) = (most : ℕ) → length text ≤ most → HasFault most text line fault
IsWholeStop text stops.NoMemory = ⊤

-- the answer to the end of these bytes
abbrev pub FinishesWith : List ℕ → (given before after : List Item) → Result (Unit {0}) (LineStop ℕ) → Type 0
FinishesWith bytes given before after (Ok _) = Joins bytes given before after
FinishesWith bytes given before after (Err stop) = IsWholeStop bytes stop × (after ≡ before)

-- each text that goes on behind these bytes has the fault, if no more than these are read
abbrev pub IsStopBeyond : List ℕ → LineStop ℕ → Type 0
IsStopBeyond front (stops.Fault line fault) = (byte : ℕ) (rest : List ℕ) → HasFault (length front) (front ++ byte ∷ rest) line fault
IsStopBeyond front stops.NoMemory = ⊥

-- ---- one line

-- no entry goes on behind the line
abbrev pub ends_entry : PartLine → Bool
ends_entry (parts.Catalogue (lines.Shape cells)) = true
ends_entry (parts.Catalogue (lines.End count)) = true
ends_entry line = false

-- an entry was made of its lines
abbrev pub IsMade : Entry → Type 0
IsMade e = AreEntryLines false (entry_lines e) × HoldsItsLines e

-- the entry at hand, if there is one, was appended
pub record Gives (before : ℕ) (held now : List Line) (items after : List Item) : Type 0 where
  pub more : List Entry
  pub lines : flat_map entry_lines more ≡ held
  pub made : AllByRecursion IsMade more
  pub one : ((held ≡ []) × (more ≡ [])) ⊎ (length more ≡ 1)
  pub none_held : now ≡ []
  pub after_is : after ≡ items ++ items_behind before more

-- it was, or nothing changed
abbrev pub Settles : Bool → (before : ℕ) (held now : List Line) (items after : List Item) → Type 0
Settles true before held now items after = Gives before held now items after
Settles false before held now items after = (now ≡ held) × (after ≡ items)

-- the item of a header, where none came before
abbrev pub new_header : Option Header → Header → List Item
new_header None header = items.Header header ∷ []
new_header (Some first) header = []

-- what a line adds to the lines at hand, and to the items
abbrev pub Holds : PartLine → Option Header → (held now : List Line) (items after : List Item) → Type 0
Holds (parts.Share i k) first held now items after = (now ≡ held) × (after ≡ items)
Holds (parts.Catalogue (lines.Header header)) first held now items after = (now ≡ held) × (after ≡ items ++ new_header first header)
Holds (parts.Catalogue (lines.End count)) first held now items after = (now ≡ held) × (after ≡ items)
Holds (parts.Catalogue line) first held now items after = (now ≡ held ++ line ∷ []) × (after ≡ items)

-- the line was taken
pub record TakesLine (old new : Kept) (line : PartLine) (reached : Stage) (items after : List Item) : Type 0 where
  pub middle : List Line
  pub between : List Item
  pub before : ℕ
  pub before_is : before + length old.held ≡ old.lines
  pub settled : Settles (ends_entry line) before old.held middle items between
  pub holds : Holds line old.stage.header middle new.held between after
  pub stage : new.stage ≡ reached
  pub left : new.left ≡ []
  pub lines : new.lines ≡ old.lines + 1

-- it was, unless memory was refused, and then nothing was appended, or all that the line appends
abbrev pub Advances : (old new : Kept) → PartLine → Stage → (items after : List Item) → Result (Unit {0}) (LineStop ℕ) → Type 0
Advances old new line reached items after (Ok _) = TakesLine old new line reached items after
Advances old new line reached items after (Err (stops.Fault at fault)) = ⊥
Advances old new line reached items after (Err stops.NoMemory) = (after ≡ items) ⊎ ((taken : Kept) × TakesLine old taken line reached items after)
