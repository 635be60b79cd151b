-- Outer texts: for each shape of a list its entry and what is known of its outer number, and at last how many they are.
use Rattle.std.specs.Prelude.{◌≡◌, ℕ, ◌==◌, List, [], ◌++◌, map, take, length, All, if◌then◌else◌}
use Rattle.std.specs.List.{AllByRecursion, flat_map}
use Rattle.heesch_grid.specs.declared.Cell.{Cell}
use Rattle.heesch_grid.specs.Geometry.{Geometry}
use Rattle.heesch_grid.specs.Polyform.{IsFreeList}
use Rattle.heesch_cert.specs.declared.entry.Entry.{Entry}
use Rattle.heesch_cert.specs.declared.limits.Limits.{Limits}
use Rattle.heesch_cert.specs.TrueEntry.{first_number}
use Rattle.heesch_catalogue.specs.Catalogues.{AreEntries}
use Rattle.heesch_line.specs.Forms.{IsLine}
use Rattle.heesch_text.specs.Catalogue.{entry_lines, entry_text, end_text}
use Rattle.heesch_outer.specs.Answer.{IsOuterAnswer}
use Rattle.heesch_outer.specs.Found.{IsNearAnswer}
use Rattle.heesch_outer.specs.Proofs.{LeavesOuterOpen}
use Rattle.heesch_outer.specs.Record.{answer_lines, answer_text}
use Rattle.heesch_outer.specs.Statements.{TellsNumber}
use Rattle.heesch_outer.specs.declared.answers.OuterEntry.{OuterEntry}

-- ---- entries with answers

-- the answer is one that `check_outer` takes and accepts for the entry; the outer number of its shape is what it tells; and where it is spent, its steps leave the formula open
pub record HasOuterAnswer (g : Geometry) (limits : Limits) (e : OuterEntry) : Type 0 where
  pub is_near : IsNearAnswer e.answer
  pub is_answer : IsOuterAnswer g limits e.entry e.answer
  pub tells : TellsNumber g e.entry.cells (first_number e.entry.verdict) e.answer
  pub left_open : LeavesOuterOpen g limits e.entry.cells (first_number e.entry.verdict) e.answer

-- the entries alone
abbrev pub entries_in : List OuterEntry → List Entry
entries_in es = map (λ (e : OuterEntry). e.entry) es

-- the entries are of these shapes, one each, in their order; each is true under the grid and the limits, with a right verdict; and each has such an answer
pub record AreOuterEntries (g : Geometry) (limits : Limits) (shapes : List (List Cell)) (es : List OuterEntry) : Type 0 where
  pub entries : AreEntries g limits shapes (entries_in es)
  pub answers : All (HasOuterAnswer g limits) es

-- the lines of the entry and of its answer have the forms of a catalogue's lines
abbrev pub IsReadable : OuterEntry → Type 0
IsReadable e = AllByRecursion IsLine (entry_lines e.entry) × AllByRecursion IsLine (answer_lines e.answer)

-- each of these can be read so
abbrev pub AreReadable : List OuterEntry → Type 0
AreReadable es = AllByRecursion IsReadable es

-- ---- texts

-- an outer record: the text of an entry, as a full catalogue has it, and behind it that of its answer
abbrev pub record_text : OuterEntry → List ℕ
record_text e = entry_text e.entry ++ answer_text (first_number e.entry.verdict) e.answer

-- the records, one after another
abbrev pub records_text : List OuterEntry → List ℕ
records_text es = flat_map record_text es

-- the records, and the last line with their number
abbrev pub outers_text : List OuterEntry → List ℕ
outers_text es = records_text es ++ end_text (length es)

-- as much of the outer text of so many records as its first records decide: the last line stands behind the last one alone
abbrev pub begun_outers_text : ℕ → List OuterEntry → List ℕ
begun_outers_text count first = records_text first ++ (if length first == count then end_text count else [])

-- the output is the outer text of these shapes under the limits; the lines of its entries and answers can be read
abbrev pub IsOuters : Geometry → Limits → List (List Cell) → List ℕ → Type 0
IsOuters g limits shapes output = (es : List OuterEntry) × AreOuterEntries g limits shapes es × AreReadable es × (output ≡ outers_text es)

-- the output is the records of some first ones of these shapes, then the last line where these are all
abbrev pub IsBegunOuters : Geometry → Limits → List (List Cell) → List ℕ → Type 0
IsBegunOuters g limits shapes output =
    (count : ℕ) × (es : List OuterEntry) × AreOuterEntries g limits (take count shapes) es × (output ≡ begun_outers_text (length shapes) es)

-- the same of the free list of the grid's polyforms of n cells
abbrev pub IsOutersOfSize : Geometry → Limits → ℕ → List ℕ → Type 0
IsOutersOfSize g limits n output = (shapes : List (List Cell)) × IsFreeList g n shapes × IsOuters g limits shapes output

abbrev pub IsBegunOutersOfSize : Geometry → Limits → ℕ → List ℕ → Type 0
IsBegunOutersOfSize g limits n output = (shapes : List (List Cell)) × IsFreeList g n shapes × IsBegunOuters g limits shapes output
