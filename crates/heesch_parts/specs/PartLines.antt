-- The lines of a share text: the line that names the share, and those of a catalogue.
use Rattle.std.specs.Prelude.{◌≡◌, ◌≢◌, ℕ, ◌≤◌, List, [], ◌∷◌, ◌++◌, Result, Ok, Err, decimal, codes}
use Rattle.std.specs.List.{flat_map}
use Rattle.heesch_text.specs.Fields.{spaced}
use Rattle.heesch_text.specs.Lines.{words_of}
use Rattle.heesch_line.specs.Forms.{IsLine}
use Rattle.heesch_line.specs.declared.fault.LineFault.{LineFault}
use Rattle.heesch_line.specs.declared.fault.LineFault.TheVariants as faults
use Rattle.heesch_parts.specs.declared.part_line.PartLine.{PartLine}
use Rattle.heesch_parts.specs.declared.part_line.PartLine.TheVariants as parts

-- the words behind `share`: the number of the share, and how many there are, each behind a space
abbrev pub numbers_text : (i k : ℕ) → List ℕ
numbers_text i k = spaced decimal (i ∷ k ∷ [])

-- a line without its newline
abbrev pub part_words : PartLine → List ℕ
part_words (parts.Share i k) = codes "share" ++ numbers_text i k
part_words (parts.Catalogue line) = words_of line

-- a share is one of at most 1,000
pub record IsShare (i k : ℕ) : Type 0 where
  pub first : 1 ≤ i
  pub last : i ≤ k
  pub most : k ≤ 1000

-- the line has a form of a share text's line
abbrev pub IsPartLine : PartLine → Type 0
IsPartLine (parts.Share i k) = IsShare i k
IsPartLine (parts.Catalogue line) = IsLine line

-- a line with its newline
abbrev pub part_text : PartLine → List ℕ
part_text line = part_words line ++ codes "\n"

-- lines, each with its newline
abbrev pub parts_text : List PartLine → List ℕ
parts_text ls = flat_map part_text ls

-- no share is named by these words
abbrev pub NamesNoShare : List ℕ → Type 0
NamesNoShare bytes = (i k : ℕ) → IsShare i k → numbers_text i k ≢ bytes

-- the share that these words behind `share` name, or that they name none
abbrev pub ReadsShare : List ℕ → Result PartLine LineFault → Type 0
ReadsShare bytes (Ok (parts.Share i k)) = IsShare i k × (numbers_text i k ≡ bytes)
ReadsShare bytes (Ok (parts.Catalogue line)) = ⊥
ReadsShare bytes (Err faults.NotALine) = NamesNoShare bytes
ReadsShare bytes (Err faults.NoMemory) = Unit {0}

-- the share that these numbers make, or that they make none
abbrev pub MakesShare : List ℕ → Result PartLine LineFault → Type 0
MakesShare numbers (Ok (parts.Share i k)) = IsShare i k × (numbers ≡ i ∷ k ∷ [])
MakesShare numbers (Ok (parts.Catalogue line)) = ⊥
MakesShare numbers (Err faults.NotALine) = (i k : ℕ) → IsShare i k → numbers ≢ i ∷ k ∷ []
MakesShare numbers (Err faults.NoMemory) = ⊥
