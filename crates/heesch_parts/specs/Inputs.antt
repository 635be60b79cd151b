-- What the input of a source gives that share texts are joined of.
use Rattle.std.specs.Prelude.{◌≡◌, ℕ, ◌≤◌, List, ◌++◌, length, Option, ⊤}
use Rattle.std.specs.List.{AllByRecursion}
use Rattle.heesch_cert.specs.declared.header.Header.{Header}
use Rattle.heesch_cert.specs.declared.entry.Entry.{Entry}
use Rattle.heesch_line.specs.Forms.{HasNoNewline}
use Rattle.heesch_reader.specs.declared.item.Item.{Item}
use Rattle.heesch_io.specs.Input.{IsAllOf}
use Rattle.heesch_parts.specs.declared.part_line.PartLine.{PartLine}
use Rattle.heesch_parts.specs.declared.stage.Stage.{Stage}
use Rattle.heesch_line.specs.declared.stops.InputStop.{InputStop}
use Rattle.heesch_line.specs.declared.stops.InputStop.TheVariants as stops
use Rattle.heesch_parts.specs.PartLines.{IsPartLine, parts_text}
use Rattle.heesch_parts.specs.Stages.{start, Walk}
use Rattle.heesch_parts.specs.Shares.{AreShares, joined_items}
use Rattle.heesch_parts.specs.Faults.{HasFault}

-- the text is that of K shares, and these are the items of the joined catalogue
pub record AreJoined (text : List ℕ) (all : List Item) : Type 0 where
  pub header : Header
  pub shares : List (List Entry)
  pub are : AreShares text header shares
  pub joined : all ≡ joined_items header shares

-- the text that the source had left, no longer than is read, is that of K shares, and these are the items of the joined catalogue
abbrev pub GivesJoined : (most : ℕ) → Option (List ℕ) → List Item → Type 0
GivesJoined most left all = (text : List ℕ) × IsAllOf left text × (length text ≤ most) × AreJoined text all

-- the text that the source had left has this fault, unless the source failed, or memory was refused
abbrev pub GivesFault : (most : ℕ) → Option (List ℕ) → InputStop ℕ → Type 0
GivesFault most left (stops.Fault line fault) = (text : List ℕ) × IsAllOf left text × HasFault most text line fault
GivesFault most left stops.Failed = ⊤
GivesFault most left stops.NoMemory = ⊤

-- the bytes, no more than the most that are read, decide nothing yet: each line that ended in them may stand behind those before it
pub record DecideNothing (most : ℕ) (bytes : List ℕ) : Type 0 where
  pub few : length bytes ≤ most
  pub ended : List PartLine
  pub left : List ℕ
  pub stage : Stage
  pub text : bytes ≡ parts_text ended ++ left
  pub one_line : HasNoNewline left
  pub forms : AllByRecursion IsPartLine ended
  pub walk : Walk start ended stage

-- the text has the fault, where all of it is read
abbrev pub IsWholeInputStop : List ℕ → InputStop ℕ → Type 0
IsWholeInputStop text (stops.Fault line fault) = (most : ℕ) → length text ≤ most → HasFault most text line fault
IsWholeInputStop text stops.Failed = ⊥
IsWholeInputStop text stops.NoMemory = ⊤
