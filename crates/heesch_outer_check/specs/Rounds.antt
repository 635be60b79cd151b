-- The blocks of a round, and what is answered on them.
use Rattle.std.specs.Prelude.{◌≡◌, ◌↔◌, ℕ, ◌+◌, ◌<◌, ◌≤◌, ◌^◌, ⊤, Bool, IsTrue, true, false, List, [], ◌∷◌, codes, length, take, drop, slice_get, Some}
use Rattle.heesch_grid.specs.declared.Cell.{Cell}
use Rattle.heesch_grid.specs.Geometry.{Geometry}
use Rattle.heesch_grid.specs.Polyform.{IsFreeList}
use Rattle.heesch_cert.specs.declared.header.Header.{Header}
use Rattle.heesch_cert.specs.declared.header.Subject.{Subject}
use Rattle.heesch_cert.specs.declared.header.Subject.TheVariants.{Size, Given}
use Rattle.heesch_reader.specs.Faults.{begins}
use Rattle.heesch_check.specs.declared.answers.Checked.{Checked}
use Rattle.heesch_check.specs.declared.answers.Checked.TheVariants as answers
use Rattle.heesch_check.specs.Catalogues.{block_of, behind_block, IsEnd}
use Rattle.heesch_outer.specs.declared.answers.OuterEntry.{OuterEntry}
use Rattle.heesch_outer_check.specs.declared.checking.Judged.{Judged}
use Rattle.heesch_outer_check.specs.declared.checking.Judged.TheVariants as rounds
use Rattle.heesch_outer_check.specs.Records.{AreRecords, IsGoodBlock}

-- for a size, the shapes are its free list; given ones aren't known
abbrev pub AreListed : Geometry → Subject → List (List Cell) → Type 0
AreListed g (Size n) shapes = IsFreeList g n shapes × (length shapes < 2 ^ 32)
AreListed g Given shapes = ⊤

-- the block that stands first in the bytes has so many of them
pub record EndsAt (bytes : List ℕ) (i : ℕ) : Type 0 where
  pub block : take i bytes ≡ block_of bytes
  pub behind : drop i bytes ≡ behind_block bytes

-- these blocks stand first in the bytes, each of which begins a shape, and the rest behind them
abbrev pub AreBlocks : List ℕ → List (List ℕ) → List ℕ → Type 0
AreBlocks bytes [] rest = bytes ≡ rest
AreBlocks bytes (block ∷ blocks) rest = (begins bytes (codes "shape ") ≡ true) × (block ≡ block_of bytes) × AreBlocks (behind_block bytes) blocks rest

-- whether this one of the blocks is a good record behind so many records
abbrev pub IsBlockAnswer : Header → List (List ℕ) → (i before : ℕ) → Bool → Type 0
IsBlockAnswer header blocks i before holds = (block : List ℕ) → slice_get blocks i ≡ Some block → IsTrue holds ↔ IsGoodBlock header before block

-- the answers on the blocks, behind so many records
abbrev pub AreAnswers : Header → ℕ → List (List ℕ) → List Bool → Type 0
AreAnswers header before [] [] = ⊤
AreAnswers header before (block ∷ blocks) (holds ∷ answers) = (IsTrue holds ↔ IsGoodBlock header before block) × AreAnswers header (before + 1) blocks answers
AreAnswers header before blocks answers = ⊥

-- the free list of a size of 1 to 32 cells can be made; given shapes need none
abbrev pub CanBeListed : Subject → Type 0
CanBeListed (Size n) = (1 ≤ n) × (n ≤ 32)
CanBeListed Given = ⊤

-- behind so many records there are good ones in the bytes, and then the rest, at which there are so many in all
pub record AreGood (header : Header) (before : ℕ) (bytes : List ℕ) (after : ℕ) (rest : List ℕ) : Type 0 where
  pub es : List OuterEntry
  pub records : AreRecords header before bytes es rest
  pub after_is : after ≡ before + length es

-- the answer of bytes that stand behind so many good records, where it is decided there
abbrev pub IsAnswerBehind : Header → ℕ → List ℕ → Checked → Type 0
IsAnswerBehind header count rest (answers.Valid valid) = IsEnd header count rest × (valid ≡ count)
IsAnswerBehind header count rest answers.InvalidHeader = ⊥
IsAnswerBehind header count rest (answers.InvalidEntry number) = (begins rest (codes "shape ") ≡ true) × (¬ IsGoodBlock header count (block_of rest)) × (number ≡ count + 1)
IsAnswerBehind header count rest answers.InvalidEnd = (begins rest (codes "shape ") ≡ false) × (¬ IsEnd header count rest)
IsAnswerBehind header count rest (answers.TooLong line) = ⊥

-- behind so many records there are good ones in the bytes, and then a record that isn't good; at that there are so many in all
pub record AreGoodUpTo (header : Header) (before : ℕ) (bytes : List ℕ) (after : ℕ) : Type 0 where
  pub rest : List ℕ
  pub good : AreGood header before bytes after rest
  pub bad : IsAnswerBehind header after rest (answers.InvalidEntry (after + 1))

-- blocks were judged behind so many records: they are good up to the number `until`, or to where none begins
pub record JudgesGood (header : Header) (before until : ℕ) (bytes : List ℕ) (after len : ℕ) : Type 0 where
  pub within : len ≤ length bytes
  pub most : after ≤ until
  pub good : AreGood header before bytes after (drop len bytes)
  pub all : after < until → begins (drop len bytes) (codes "shape ") ≡ false

-- they are judged so, or one of them isn't good
abbrev pub JudgesRound : Header → (before until : ℕ) → (bytes : List ℕ) → Judged → Type 0
JudgesRound header before until bytes (rounds.Good after len) = JudgesGood header before until bytes after len
JudgesRound header before until bytes (rounds.Bad after) = AreGoodUpTo header before bytes after

-- how many records there may be at most
abbrev pub most_of : Subject → List (List Cell) → ℕ
most_of (Size n) shapes = length shapes
most_of Given shapes = 10000
