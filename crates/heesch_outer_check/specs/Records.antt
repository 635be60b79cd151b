-- The records of an outer text in its bytes, from the first on. A header names the grid, the subject and the limits; it stands in no outer text.
use Rattle.std.specs.Prelude.{◌≡◌, ℕ, ◌+◌, List, [], ◌∷◌}
use Rattle.std.specs.List.{AllByRecursion}
use Rattle.heesch_grid.specs.Names.{geometry_of}
use Rattle.heesch_cert.specs.declared.header.Header.{Header}
use Rattle.heesch_cert.specs.TrueEntry.{IsTrueEntry}
use Rattle.heesch_text.specs.Catalogue.{entry_lines}
use Rattle.heesch_line.specs.Forms.{IsLine}
use Rattle.heesch_check.specs.Catalogues.{block_of, behind_block, IsInPlace}
use Rattle.heesch_outer.specs.Answer.{IsOuterAnswer}
use Rattle.heesch_outer.specs.Outers.{record_text}
use Rattle.heesch_outer.specs.Record.{answer_lines}
use Rattle.heesch_outer.specs.declared.answers.OuterEntry.{OuterEntry}

-- behind so many records, the entry is true under the grid and the limits, its shape is in its place, the answer is allowed for the entry, and the lines of both have the forms of a catalogue's
pub record IsGoodRecord (header : Header) (before : ℕ) (e : OuterEntry) : Type 0 where
  pub is_true : IsTrueEntry (geometry_of header.grid) header.limits e.entry
  pub in_place : IsInPlace (geometry_of header.grid) header.subject before e.entry.cells
  pub is_answer : IsOuterAnswer (geometry_of header.grid) header.limits e.entry e.answer
  pub entry_forms : AllByRecursion IsLine (entry_lines e.entry)
  pub answer_forms : AllByRecursion IsLine (answer_lines e.answer)

-- behind so many records, the block is the text of a good one
pub record IsGoodBlock (header : Header) (before : ℕ) (block : List ℕ) : Type 0 where
  pub record_is : OuterEntry
  pub good : IsGoodRecord header before record_is
  pub text : block ≡ record_text record_is

-- behind so many records, the blocks of these ones stand first in the bytes, each good, and the rest behind them
abbrev pub AreRecords : Header → ℕ → List ℕ → List OuterEntry → List ℕ → Type 0
AreRecords header before bytes [] rest = bytes ≡ rest
AreRecords header before bytes (e ∷ es) rest = IsGoodRecord header before e × (block_of bytes ≡ record_text e) × AreRecords header (before + 1) (behind_block bytes) es rest

-- behind so many records, each of these is good
abbrev pub AreGoodRecords : Header → ℕ → List OuterEntry → Type 0
AreGoodRecords header before [] = Unit {0}
AreGoodRecords header before (e ∷ es) = IsGoodRecord header before e × AreGoodRecords header (before + 1) es
