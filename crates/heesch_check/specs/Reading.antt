-- What reading came to, and the answer behind items that were judged.
use Rattle.std.specs.Io.KnownBytes.{Consumes}
use Rattle.std.specs.Prelude.{◌≡◌, ◌⊎◌, ℕ, ◌+◌, ◌<◌, ◌≤◌, false, List, [], ◌∷◌, ◌++◌, length, slice_get, Option, Some, None, Result, IfOk}
use Rattle.heesch_grid.specs.declared.Cell.{Cell}
use Rattle.heesch_cert.specs.declared.header.Header.{Header}
use Rattle.heesch_cert.specs.declared.verdict.Verdict.{Verdict}
use Rattle.heesch_text.specs.declared.line.Line.TheVariants as lines
use Rattle.heesch_line.specs.Forms.{IsLine}
use Rattle.heesch_reader.specs.declared.item.Item.{Item}
use Rattle.heesch_reader.specs.declared.item.Item.TheVariants as items
use Rattle.heesch_reader.specs.declared.item.Part.{Part}
use Rattle.heesch_reader.specs.declared.item.Part.TheVariants as parts
use Rattle.heesch_reader.specs.declared.progress.AtHand.{AtHand}
use Rattle.heesch_reader.specs.declared.progress.AtHand.TheVariants as endings
use Rattle.heesch_reader.specs.Endings.{ending_of}
use Rattle.heesch_io.specs.Input.{IsAllOf, ReadsNoFurther, piece_max}
use Rattle.heesch_reader.specs.Taking.{Streamed, Begins, HasRead, IsCatalogue, HasFault, HasTooMany, input_max}
use Rattle.heesch_check.specs.declared.ahead.Pending.{Pending}
use Rattle.heesch_check.specs.declared.ahead.Round.{Round}
use Rattle.heesch_check.specs.declared.answers.Checked.{Checked}
use Rattle.heesch_check.specs.declared.answers.Checked.TheVariants as answers
use Rattle.heesch_io.specs.declared.fault.IoStop.{IoStop}
use Rattle.heesch_check.specs.declared.reading.Reading.{Reading}
use Rattle.heesch_check.specs.declared.reading.Reading.TheVariants as readings
use Rattle.heesch_check.specs.Answers.{IsChecked}
use Rattle.heesch_check.specs.Judging.{AreAllGood, StopsIn, AreJudged}
use Rattle.heesch_check.specs.Catalogues.{AreAll}

-- the answer where a line begins as the last one does: another one, unless the entries are all
abbrev pub AnswersEarly : Header → (entries line : ℕ) → (early answer : Checked) → Type 0
AnswersEarly header entries line early answer = (AreAll header header.subject entries × (answer ≡ answers.TooLong line)) ⊎ ((AreAll header header.subject entries → ⊥) × (answer ≡ early))

-- the answer where the input is too long behind so many good entries, by how the line at hand begins
abbrev pub AnswersLong : Header → (entries line : ℕ) → AtHand → Checked → Type 0
AnswersLong header entries line endings.Other answer = answer ≡ answers.TooLong line
AnswersLong header entries line endings.Next answer = AnswersEarly header entries line answers.InvalidEnd answer
AnswersLong header entries line endings.Inside answer = AnswersEarly header entries line (answers.InvalidEntry (entries + 1)) answer

-- the answer where reading stops behind so many good entries
abbrev pub IsAnswerOf : Header → ℕ → Reading → Option Checked → Type 0
IsAnswerOf header entries readings.More answer = answer ≡ None
IsAnswerOf header entries readings.End answer = answer ≡ Some (answers.Valid entries)
IsAnswerOf header entries (readings.Fault parts.Header) answer = answer ≡ Some answers.InvalidHeader
IsAnswerOf header entries (readings.Fault parts.Entry) answer = answer ≡ Some (answers.InvalidEntry (entries + 1))
IsAnswerOf header entries (readings.Fault parts.End) answer = answer ≡ Some answers.InvalidEnd
IsAnswerOf header entries (readings.TooLong line ending) answer = (told : Checked) × (answer ≡ Some told) × AnswersLong header entries line ending told

-- a fault stands behind the header, before anything whole, and this is its answer
pub record FaultsAlone (all : List Item) (reading : Reading) (answer : Checked) : Type 0 where
  pub alone : length all ≤ 1
  pub part : Part
  pub fault : reading ≡ readings.Fault part
  pub tells : (header : Header) → IsAnswerOf header 0 (readings.Fault part) (Some answer)

-- so does a brief entry
pub record IsBriefFirst (all : List Item) (answer : Checked) : Type 0 where
  pub line : ℕ
  pub cells : List Cell
  pub verdict : Verdict
  pub second : slice_get all 1 ≡ Some (items.Brief line cells verdict)
  pub tells : answer ≡ answers.InvalidEntry 1

-- what stands first behind the header is at fault, whatever the free list, and this is its answer
abbrev pub FaultsFirst : List Item → Reading → Checked → Type 0
FaultsFirst all reading answer = FaultsAlone all reading answer ⊎ IsBriefFirst all answer

-- since the source had `first` left, these items were read, and reading came so far
abbrev pub IsReading : (first now : Option (List ℕ)) → List Item → Streamed → Reading → Type 0
IsReading first now all s readings.More = HasRead first now all s
IsReading first now all s readings.End = IsCatalogue first all
IsReading first now all s (readings.Fault part) = (line : ℕ) × HasFault first all line part
IsReading first now all s (readings.TooLong line ending) = (t : HasTooMany first all line) × (ending ≡ ending_of t.begins.held t.begins.left)

-- items were appended: whatever was read before, they were read behind it, and reading came so far
pub record Reads (before now : Option (List ℕ)) (old new : Streamed) (items after : List Item) (reading : Reading) : Type 0 where
  pub more : List Item
  pub after_is : after ≡ items ++ more
  pub grows : reading ≡ readings.More → old.count < new.count
  pub goes_on : (first : Option (List ℕ)) (found : List Item) → HasRead first before found old → IsReading first now (found ++ more) new reading

-- these items were read behind others, and reading came so far
abbrev pub MayGather : Option (List ℕ) → Streamed → List Item → Reading → Type 0
MayGather now s items reading = (first : Option (List ℕ)) × (found : List Item) × IsReading first now (found ++ items) s reading

-- items were appended, until there are enough or nothing more may follow: whatever was read before, they were read behind it
pub record Gathers (before now : Option (List ℕ)) (old new : Streamed) (items after : List Item) (enough : ℕ) (from to : Reading) : Type 0 where
  pub more : List Item
  pub after_is : after ≡ items ++ more
  pub are_enough : to ≡ readings.More → enough ≤ length after
  pub from_more : to ≡ readings.More → (from ≡ readings.More) × (old.count ≤ new.count)
  pub grown : to ≡ readings.More → (after ≡ items) ⊎ (old.count < new.count)
  pub goes_on : (first : Option (List ℕ)) (found : List Item) → IsReading first before (found ++ items) old from → IsReading first now (found ++ after) new to

-- the items of a round were appended to those at hand, some at least, and then those ahead of the next by themselves: whatever was read before, they were read behind it
pub record IsRound (before now : Option (List ℕ)) (old new : Streamed) (at_hand : Pending) (round : Round) : Type 0 where
  pub middle : Option (List ℕ)
  pub between : Streamed
  pub enough : ℕ
  pub some : 0 < enough
  pub gathers : Gathers before middle old between at_hand.items round.items enough at_hand.reading round.reading
  pub left : ℕ
  pub ahead : Gathers middle now between new [] round.ahead.items left round.reading round.ahead.reading

-- what was read before the last piece, no more than is read, begins a catalogue with the items found, these ones and others, fewer than enough behind those found
pub record LacksItems (first now : Option (List ℕ)) (found items : List Item) (enough : ℕ) : Type 0 where
  pub bytes : List ℕ
  pub last : List ℕ
  pub consumed : Consumes first now (bytes ++ last)
  pub at_most : length bytes ≤ input_max
  pub one_piece : length last ≤ piece_max
  pub more : List Item
  pub begins : Begins bytes (found ++ (items ++ more))
  pub few : length (items ++ more) < enough

-- nothing was read, or before the last piece there weren't enough items
abbrev pub StopsGathering : (first before now : Option (List ℕ)) (found items : List Item) (enough : ℕ) → Type 0
StopsGathering first before now found items enough = (now ≡ before) ⊎ LacksItems first now found items enough

-- whatever was read before, nothing was read behind these items, or before the last piece there weren't enough
pub record StopsInTime (before now : Option (List ℕ)) (s : Streamed) (items : List Item) (from : Reading) (enough : ℕ) : Type 0 where
  pub stops : (first : Option (List ℕ)) (found : List Item) → IsReading first before (found ++ items) s from → StopsGathering first before now found items enough

-- no item was read yet, and more may follow
abbrev pub MayRead : Option (List ℕ) → Streamed → Type 0
MayRead now s = (first : Option (List ℕ)) × HasRead first now [] s

-- these items were read, and reading came so far
abbrev pub IsUnderway : Option (List ℕ) → List Item → Streamed → Reading → Type 0
IsUnderway now all s reading = (first : Option (List ℕ)) × IsReading first now all s reading

-- the first of the items is the header
abbrev pub BeginWith : Header → List Item → Type 0
BeginWith header all = (others : List Item) × (all ≡ items.Header header ∷ others)

-- a header that isn't brief was read, and the items are from it on
pub record IsOpened (now : Option (List ℕ)) (header : Header) (all : List Item) (s : Streamed) (reading : Reading) : Type 0 where
  pub form : IsLine (lines.Header header)
  pub full : header.brief ≡ false
  pub begin : BeginWith header all
  pub underway : IsUnderway now all s reading

-- an answer is that of the whole input
abbrev pub IsAnswered : Option (List ℕ) → Result Checked IoStop → Type 0
IsAnswered first result = IfOk result (λ c. (input : List ℕ) × IsAllOf first input × IsChecked input c)

-- the judgement of a batch of items, and of how far reading came with it
abbrev pub JudgesRound : Header → (before after : ℕ) → List Item → Reading → Option Checked → Type 0
JudgesRound header before after batch reading None = AreAllGood header before after batch × IsAnswerOf header after reading None
JudgesRound header before after batch reading (Some answer) = StopsIn header before after batch answer ⊎ (AreAllGood header before after batch × IsAnswerOf header after reading (Some answer))

-- behind items that were judged, so many entries among them, these ones were read, and reading came so far
pub record IsPending (header : Header) (first now : Option (List ℕ)) (round : List Item) (s : Streamed) (entries : ℕ) (reading : Reading) : Type 0 where
  pub found : List Item
  pub judged : AreJudged header found entries
  pub reads : IsReading first now (found ++ round) s reading

-- whatever was read before, nothing but bytes was read behind it, or these are its first items, and reading came so far
abbrev pub FirstReads : (before now : Option (List ℕ)) (old new : Streamed) → List Item → Reading → Type 0
FirstReads before now old new all reading = (first : Option (List ℕ)) → HasRead first before [] old → IsReading first now all new reading

-- ---- what is read of the source

-- how many items are at hand at most behind those that were judged: the items of a round, and those that are read ahead
abbrev pub round_size : ℕ
round_size = 256

-- behind a header that isn't brief, good entries, and maybe an end behind all of them, there are fewer items than may be at hand
pub record LackRound (all : List Item) : Type 0 where
  pub header : Header
  pub entries : ℕ
  pub front : List Item
  pub round : List Item
  pub split : all ≡ front ++ round
  pub full : header.brief ≡ false
  pub judged : AreJudged header front entries
  pub few : length round < round_size

-- the bytes, no more than are read, decide nothing yet that is judged: they begin a catalogue with no whole item, or with a header, good entries, maybe an end behind all of them, and then fewer whole items than may be at hand
pub record DecideNothing (bytes : List ℕ) : Type 0 where
  pub few : length bytes ≤ input_max
  pub all : List Item
  pub begins : Begins bytes all
  pub judged : (all ≡ []) ⊎ LackRound all

-- whatever was read before these items, the answer is that of the whole input, and no more is read than it needs
pub record AnswersInTime (before now : Option (List ℕ)) (all : List Item) (s : Streamed) (reading : Reading) (result : Result Checked IoStop) : Type 0 where
  pub answers : (first : Option (List ℕ)) → IsReading first before all s reading → IsAnswered first result
  pub no_further : (first : Option (List ℕ)) → IsReading first before all s reading → ReadsNoFurther DecideNothing first before → ReadsNoFurther DecideNothing first now
