-- What bytes are: a valid outer text, or which of its parts is the first invalid one.
use Rattle.std.specs.Prelude.{◌≡◌, ℕ, ◌+◌, ◌≤◌, ◌^◌, ◌==◌, count_by, true, false, List, ◌∷◌, ◌++◌, length, codes}
use Rattle.heesch_cert.specs.declared.header.Header.{Header}
use Rattle.heesch_reader.specs.Faults.{begins}
use Rattle.heesch_check.specs.declared.answers.Checked.{Checked}
use Rattle.heesch_check.specs.declared.answers.Checked.TheVariants as answers
use Rattle.heesch_check.specs.Catalogues.{block_of, IsEnd}
use Rattle.heesch_outer.specs.declared.answers.OuterEntry.{OuterEntry}
use Rattle.heesch_outer_check.specs.Records.{AreRecords, IsGoodBlock}

-- the input is so many good records, and the last line behind all of them
pub record IsValidOuters (header : Header) (input : List ℕ) (count : ℕ) : Type 0 where
  pub es : List OuterEntry
  pub rest : List ℕ
  pub records : AreRecords header 0 input es rest
  pub ends : IsEnd header (length es) rest
  pub count_is : count ≡ length es

-- behind good records a block stands next that begins a shape and isn't the text of a good record, and this is its number, from 1
pub record IsInvalidRecord (header : Header) (input : List ℕ) (number : ℕ) : Type 0 where
  pub es : List OuterEntry
  pub rest : List ℕ
  pub records : AreRecords header 0 input es rest
  pub begins_shape : begins rest (codes "shape ") ≡ true
  pub no_record : ¬ IsGoodBlock header (length es) (block_of rest)
  pub number_is : number ≡ length es + 1

-- behind good records, the rest begins no shape, and isn't the last line behind all of them
pub record IsInvalidLast (header : Header) (input : List ℕ) : Type 0 where
  pub es : List OuterEntry
  pub rest : List ℕ
  pub records : AreRecords header 0 input es rest
  pub begins_none : begins rest (codes "shape ") ≡ false
  pub no_end : ¬ IsEnd header (length es) rest

-- the input has more bytes than are read, and the first byte too many is on this line
pub record IsTooLong (input : List ℕ) (line : ℕ) : Type 0 where
  pub front : List ℕ
  pub byte : ℕ
  pub behind : List ℕ
  pub text : input ≡ front ++ byte ∷ behind
  pub length_is : length front ≡ 2 ^ 40
  pub line_is : line ≡ count_by (λ b. b == 10) front + 1

-- what the answer says of an input that isn't too long; there is no header that could be invalid
abbrev pub Tells : Header → List ℕ → Checked → Type 0
Tells header input (answers.Valid count) = IsValidOuters header input count
Tells header input answers.InvalidHeader = ⊥
Tells header input (answers.InvalidEntry number) = IsInvalidRecord header input number
Tells header input answers.InvalidEnd = IsInvalidLast header input
Tells header input (answers.TooLong line) = ⊥

-- this is the answer of the input, as an outer text of the header's subject under its limits
abbrev pub IsOutersChecked : Header → List ℕ → Checked → Type 0
IsOutersChecked header input (answers.TooLong line) = IsTooLong input line
IsOutersChecked header input answer = (length input ≤ 2 ^ 40) × Tells header input answer
