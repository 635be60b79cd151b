-- The entries of a catalogue in its bytes, from its header on.
use Rattle.std.specs.Prelude.{◌≡◌, ℕ, ◌+◌, ◌<◌, ◌==◌, ◌&&◌, if◌then◌else◌, false, List, [], ◌∷◌, ◌++◌, length, Some, slice_get}
use Rattle.std.specs.List.{AllByRecursion}
use Rattle.heesch_grid.specs.declared.Cell.{Cell}
use Rattle.heesch_grid.specs.Geometry.{Geometry}
use Rattle.heesch_grid.specs.Names.{geometry_of}
use Rattle.heesch_grid.specs.Polyform.{IsFreeList}
use Rattle.heesch_cert.specs.declared.entry.Entry.{Entry}
use Rattle.heesch_cert.specs.declared.header.Header.{Header}
use Rattle.heesch_cert.specs.declared.header.Subject.{Subject}
use Rattle.heesch_cert.specs.declared.header.Subject.TheVariants.{Size, Given}
use Rattle.heesch_cert.specs.TrueEntry.{IsTrueEntry}
use Rattle.heesch_text.specs.declared.line.Line.TheVariants as lines
use Rattle.heesch_text.specs.Catalogue.{header_text, entry_lines, entry_text, end_text}
use Rattle.heesch_line.specs.Forms.{IsLine}
use Rattle.heesch_reader.specs.Faults.{begins_next}

-- the bytes up to the next line that begins with `shape ` or `end `, the space included, or to their end
abbrev pub block_of : List ℕ → List ℕ
block_of [] = []
block_of (byte ∷ bytes) = if byte == 10 && begins_next bytes then byte ∷ [] else byte ∷ block_of bytes

-- the bytes from that line on
abbrev pub behind_block : List ℕ → List ℕ
behind_block [] = []
behind_block (byte ∷ bytes) = if byte == 10 && begins_next bytes then bytes else behind_block bytes

-- behind so many entries stands the next shape of the free list of the size; of given shapes, any stands behind fewer than 10,000
abbrev pub IsInPlace : Geometry → Subject → ℕ → List Cell → Type 0
IsInPlace g (Size n) before cells = (shapes : List (List Cell)) × IsFreeList g n shapes × (slice_get shapes before ≡ Some cells)
IsInPlace g Given before cells = before < 10000

-- behind so many entries, the entry is true under the header's grid and limits, its shape is in its place, and its lines have the forms of a catalogue's
pub record IsGoodEntry (header : Header) (before : ℕ) (e : Entry) : Type 0 where
  pub is_true : IsTrueEntry (geometry_of header.grid) header.limits e
  pub in_place : IsInPlace (geometry_of header.grid) header.subject before e.cells
  pub forms : AllByRecursion IsLine (entry_lines e)

-- behind so many entries, the blocks of these entries stand first in the bytes, each good, and the rest behind them
abbrev pub AreBlocks : Header → ℕ → List ℕ → List Entry → List ℕ → Type 0
AreBlocks header before bytes [] rest = bytes ≡ rest
AreBlocks header before bytes (e ∷ es) rest = IsGoodEntry header before e × (block_of bytes ≡ entry_text e) × AreBlocks header (before + 1) (behind_block bytes) es rest

-- the input begins with the text of a header that isn't brief
pub record IsHeaded (input : List ℕ) (header : Header) (body : List ℕ) : Type 0 where
  pub text : input ≡ header_text header ++ body
  pub form : IsLine (lines.Header header)
  pub full : header.brief ≡ false

-- the input is a header, the blocks of these entries, each good, and the rest
pub record AreChecked (input : List ℕ) (header : Header) (es : List Entry) (rest : List ℕ) : Type 0 where
  pub body : List ℕ
  pub headed : IsHeaded input header body
  pub blocks : AreBlocks header 0 body es rest

-- so many entries are all that the header asks for: as many as the free list of the size has shapes, or of given shapes any number
abbrev pub AreAll : Header → Subject → ℕ → Type 0
AreAll header (Size n) count = (shapes : List (List Cell)) × IsFreeList (geometry_of header.grid) n shapes × (count ≡ length shapes)
AreAll header Given count = Unit {0}

-- behind so many entries, the rest is the last line with their number, and they are all
pub record IsEnd (header : Header) (count : ℕ) (rest : List ℕ) : Type 0 where
  pub text : rest ≡ end_text count
  pub all : AreAll header header.subject count
