-- What is known of the items that were judged.
use Rattle.std.specs.Prelude.{◌≡◌, ◌⊎◌, ◌↔◌, ℕ, ◌+◌, ◌/◌, ◌%◌, ◌<◌, ◌≤◌, ◌^◌, Bool, IsTrue, List, [], ◌∷◌, ◌++◌, length, take, slice_get, Option, Some, None, MatchOption}
use Rattle.std.specs.List.{AllByRecursion}
use Rattle.heesch_audit.specs.Portions.{PortionHolds}
use Rattle.heesch_grid.specs.declared.Cell.{Cell}
use Rattle.heesch_grid.specs.Geometry.{Geometry}
use Rattle.heesch_grid.specs.Names.{geometry_of}
use Rattle.heesch_grid.specs.Polyform.{IsFreeList}
use Rattle.heesch_cert.specs.declared.entry.Entry.{Entry}
use Rattle.heesch_cert.specs.declared.header.Header.{Header}
use Rattle.heesch_cert.specs.declared.header.Subject.{Subject}
use Rattle.heesch_cert.specs.declared.header.Subject.TheVariants.{Size, Given}
use Rattle.heesch_cert.specs.declared.limits.Limits.{Limits}
use Rattle.heesch_cert.specs.declared.verdict.Verdict.{Verdict}
use Rattle.heesch_cert.specs.declared.verdict.Verdict.TheVariants.{Tiles}
use Rattle.heesch_cert.specs.TrueEntry.{IsTrueEntry, last_number}
use Rattle.heesch_grammar.specs.Entries.{HoldsItsLines}
use Rattle.heesch_line.specs.Forms.{IsLine}
use Rattle.heesch_reader.specs.declared.item.Item.{Item}
use Rattle.heesch_reader.specs.declared.item.Item.TheVariants as items
use Rattle.heesch_reader.specs.Items.{item_lines}
use Rattle.heesch_check.specs.declared.answers.Checked.{Checked}
use Rattle.heesch_check.specs.declared.answers.Checked.TheVariants as answers
use Rattle.heesch_check.specs.Catalogues.{IsGoodEntry, IsInPlace, AreAll}

-- the shapes are the free list of the header's size, which has fewer than 2^32; for given shapes there are none
abbrev pub HasShapes : Header → Subject → Option (List (List Cell)) → Type 0
HasShapes header (Size n) (Some shapes) = IsFreeList (geometry_of header.grid) n shapes × (length shapes < 2 ^ 32)
HasShapes header Given None = Unit {0}
HasShapes header subject shapes = ⊥

-- an entry of an item holds nothing beyond its lines
abbrev pub HoldsLines : Item → Type 0
HoldsLines (items.Entry line entry) = HoldsItsLines entry
HoldsLines item = Unit {0}

-- the lines of the item have forms of a catalogue's lines, and it holds nothing beyond them
pub record IsFit (item : Item) : Type 0 where
  pub forms : AllByRecursion IsLine (item_lines item)
  pub holds : HoldsLines item

-- behind so many good entries an entry is good, and there is one more; else this is the answer
abbrev pub JudgesEntry : Header → (before after : ℕ) → Entry → Option Checked → Type 0
JudgesEntry header before after e result =
    MatchOption result (IsGoodEntry header before e × (after ≡ before + 1)) (λ answer. (answer ≡ answers.InvalidEntry (before + 1)) × (IsGoodEntry header before e → ⊥))

-- behind so many good entries, an end stands where they are all; else this is the answer
abbrev pub JudgesEnd : Header → (before after : ℕ) → Option Checked → Type 0
JudgesEnd header before after result =
    MatchOption result (AreAll header header.subject before × (after ≡ before)) (λ answer. (answer ≡ answers.InvalidEnd) × (AreAll header header.subject before → ⊥))

-- the judgement of an item behind a header and so many good entries; no other header stands there
abbrev pub Judges : Header → (before after : ℕ) → Item → Option Checked → Type 0
Judges header before after (items.Entry line entry) result = JudgesEntry header before after entry result
Judges header before after (items.Brief line cells verdict) result = result ≡ Some (answers.InvalidEntry (before + 1))
Judges header before after (items.End count) result = JudgesEnd header before after result
Judges header before after (items.Header other) result = Unit {0}

-- each of the items is judged good, and then there are so many entries
abbrev pub AreAllGood : Header → (before after : ℕ) → List Item → Type 0
AreAllGood header before after [] = after ≡ before
AreAllGood header before after (item ∷ items) = (middle : ℕ) × Judges header before middle item None × AreAllGood header middle after items

-- the items before this one are judged good, and this is its answer
pub record StopsIn (header : Header) (before after : ℕ) (found : List Item) (answer : Checked) : Type 0 where
  pub front : List Item
  pub item : Item
  pub back : List Item
  pub middle : ℕ
  pub split : found ≡ front ++ item ∷ back
  pub good : AreAllGood header before middle front
  pub judges : Judges header middle after item (Some answer)

-- the judgement of items
abbrev pub JudgesAll : Header → (before after : ℕ) → List Item → Option Checked → Type 0
JudgesAll header before after found None = AreAllGood header before after found
JudgesAll header before after found (Some answer) = StopsIn header before after found answer

-- each of the items is an entry in its place behind so many entries and those before it
abbrev pub ArePlaced : Header → ℕ → List Item → Type 0
ArePlaced header before [] = Unit {0}
ArePlaced header before (items.Entry line e ∷ found) = IsInPlace (geometry_of header.grid) header.subject before e.cells × ArePlaced header (before + 1) found
ArePlaced header before (item ∷ found) = ⊥

-- up to which level of coronas a verdict was sought: none for a tiling
abbrev pub levels_sought : Verdict → ℕ
levels_sought (Tiles kind domain classes) = 0
levels_sought verdict = last_number verdict

-- the portion of an entry that comes at a turn, counted around: the more levels were sought, the sooner the first
abbrev pub portion_at : Verdict → (turn portions : ℕ) → ℕ
portion_at verdict turn portions = (turn + levels_sought verdict + 1) % portions

-- whether the portion of this number holds, where each turn has one of each of so many items, and the item is an entry
abbrev pub IsPortionOf : Geometry → Limits → List Item → (count portions number : ℕ) → Bool → Type 0
IsPortionOf g limits found count portions number holds = (line : ℕ) (e : Entry) → slice_get found (number % count) ≡ Some (items.Entry line e) → (IsTrue holds ↔ PortionHolds g limits e (portion_at e.verdict (number / count) portions) portions)

-- all answers on this one of so many items are true, where each turn has one on each of them
abbrev pub AreTrueOf : List Bool → (count i : ℕ) → Type 0
AreTrueOf answers count i = (number : ℕ) (holds : Bool) → slice_get answers number ≡ Some holds → number % count ≡ i → IsTrue holds

-- whether this one of the items is true, where it is an entry
abbrev pub IsAuditOf : Geometry → Limits → List Item → ℕ → Bool → Type 0
IsAuditOf g limits found i holds = (line : ℕ) (e : Entry) → slice_get found i ≡ Some (items.Entry line e) → (IsTrue holds ↔ IsTrueEntry g limits e)

-- these are audits of the items from the first on
abbrev pub AreAudits : Geometry → Limits → List Item → List Bool → Type 0
AreAudits g limits found audits = (i : ℕ) (holds : Bool) → slice_get audits i ≡ Some holds → IsAuditOf g limits found i holds

-- the items are these entries
abbrev pub AreItemsOf : List Item → List Entry → Type 0
AreItemsOf [] [] = Unit {0}
AreItemsOf (items.Entry line entry ∷ found) (e ∷ es) = (entry ≡ e) × AreItemsOf found es
AreItemsOf found es = ⊥

-- behind so many entries, each of these is good
abbrev pub AreGood : Header → ℕ → List Entry → Type 0
AreGood header before [] = Unit {0}
AreGood header before (e ∷ es) = IsGoodEntry header before e × AreGood header (before + 1) es

-- no end, or the one behind so many entries, which are all
abbrev pub EndsAll : Header → ℕ → List Item → Type 0
EndsAll header entries ends = (ends ≡ []) ⊎ ((count : ℕ) × (ends ≡ items.End count ∷ []) × AreAll header header.subject entries)

-- the items are a header, so many good entries, and maybe an end behind all of them
pub record AreJudged (header : Header) (found : List Item) (entries : ℕ) : Type 0 where
  pub es : List Entry
  pub body : List Item
  pub ends : List Item
  pub split : found ≡ items.Header header ∷ (body ++ ends)
  pub are : AreItemsOf body es
  pub good : AreGood header 0 es
  pub count : entries ≡ length es
  pub ends_all : EndsAll header (length es) ends

-- audits of the first of these items, each an entry in its place behind so many entries and those before it
pub record AreAuditsBehind (header : Header) (before : ℕ) (found : List Item) (audits : List Bool) : Type 0 where
  pub few : length audits ≤ length found
  pub room : before + length audits < 2 ^ 32
  pub placed : ArePlaced header before (take (length audits) found)
  pub are : AreAudits (geometry_of header.grid) header.limits found audits
