-- What bytes are: a valid catalogue, or which of their parts is the first invalid one.
use Rattle.std.specs.Prelude.{◌≡◌, ◌⊎◌, ℕ, ◌+◌, ◌^◌, ◌==◌, count_by, true, false, List, [], ◌∷◌, ◌++◌, length, codes, decimal, Some}
use Rattle.std.specs.List.{AllByRecursion}
use Rattle.heesch_cert.specs.declared.entry.Entry.{Entry}
use Rattle.heesch_cert.specs.declared.header.Header.{Header}
use Rattle.heesch_text.specs.declared.line.Line.{Line}
use Rattle.heesch_text.specs.Lines.{text_of}
use Rattle.heesch_text.specs.Catalogue.{entry_text, end_text}
use Rattle.heesch_line.specs.Forms.{IsLine, HasNoNewline}
use Rattle.heesch_grammar.specs.declared.place.Place.TheVariants as places
use Rattle.heesch_grammar.specs.declared.spot.Spot.{Spot}
use Rattle.heesch_grammar.specs.Grammar.{steps, is_whole}
use Rattle.heesch_reader.specs.Faults.{begins, begins_next}
use Rattle.heesch_reader.specs.Feeding.{BeginEntry}
use Rattle.heesch_check.specs.declared.answers.Checked.{Checked}
use Rattle.heesch_check.specs.declared.answers.Checked.TheVariants as answers
use Rattle.heesch_check.specs.Catalogues.{block_of, IsGoodEntry, IsHeaded, AreChecked, AreAll, IsEnd}

-- the input is a header, so many good entries, and the last line
pub record IsValid (input : List ℕ) (count : ℕ) : Type 0 where
  pub header : Header
  pub es : List Entry
  pub rest : List ℕ
  pub checked : AreChecked input header es rest
  pub ends : IsEnd header (length es) rest
  pub count_is : count ≡ length es

-- the input doesn't begin with a header that isn't brief
abbrev pub HasNoHeader : List ℕ → Type 0
HasNoHeader input = (header : Header) (body : List ℕ) → IsHeaded input header body → ⊥

-- behind a header and good entries, a block of an entry stands next that isn't the text of a good one, and this is its number, from 1
pub record IsInvalidEntry (input : List ℕ) (number : ℕ) : Type 0 where
  pub header : Header
  pub es : List Entry
  pub rest : List ℕ
  pub checked : AreChecked input header es rest
  pub begins_entry : begins rest (codes "shape ") ≡ true
  pub no_entry : (e : Entry) → IsGoodEntry header (length es) e → block_of rest ≡ entry_text e → ⊥
  pub number_is : number ≡ length es + 1

-- behind a header and good entries, the rest begins no entry, and isn't the last line
pub record IsInvalidEnd (input : List ℕ) : Type 0 where
  pub header : Header
  pub es : List Entry
  pub rest : List ℕ
  pub checked : AreChecked input header es rest
  pub begins_none : begins rest (codes "shape ") ≡ false
  pub no_end : IsEnd header (length es) rest → ⊥

-- ---- an input that is longer than is read

-- behind so many entries, the bytes are lines of one more, none of them at fault, and then bytes of a line, which don't show that the
-- entry is whole; where they begin as the last line does, the entries are all
pub record IsBegun (header : Header) (entries : ℕ) (bytes : List ℕ) : Type 0 where
  pub held : List Line
  pub left : List ℕ
  pub reached : Spot
  pub text : bytes ≡ text_of held ++ left
  pub forms : AllByRecursion IsLine held
  pub one_entry : BeginEntry held
  pub may_stand : steps false (record { shapes = entries; place = places.Between }) held ≡ Some reached
  pub one_line : HasNoNewline left
  pub unfinished : is_whole reached.place ≡ true → begins_next left ≡ true → held ≡ []
  pub in_time : begins left (codes "end ") ≡ true → AreAll header header.subject entries

-- behind so many entries, which are all, the bytes are the last line, and then bytes without a newline
pub record IsEnded (header : Header) (entries : ℕ) (bytes : List ℕ) : Type 0 where
  pub left : List ℕ
  pub text : bytes ≡ end_text entries ++ left
  pub all : AreAll header header.subject entries
  pub one_line : HasNoNewline left

-- the bytes are a header, good entries, and a beginning of what may follow
pub record IsOpen (bytes : List ℕ) : Type 0 where
  pub header : Header
  pub es : List Entry
  pub rest : List ℕ
  pub checked : AreChecked bytes header es rest
  pub goes_on : IsBegun header (length es) rest ⊎ IsEnded header (length es) rest

-- the input is longer than is read, on this line, and what is read of it decides no invalid part
pub record IsTooLong (input : List ℕ) (line : ℕ) : Type 0 where
  pub front : List ℕ
  pub byte : ℕ
  pub behind : List ℕ
  pub text : input ≡ front ++ byte ∷ behind
  pub length_is : length front ≡ 2 ^ 40
  pub line_is : line ≡ count_by (λ b. b == 10) front + 1
  pub goes_on : IsOpen front

-- ---- the answer

-- what the answer says of the parts of the input
abbrev pub Tells : List ℕ → Checked → Type 0
Tells input (answers.Valid count) = IsValid input count
Tells input answers.InvalidHeader = HasNoHeader input
Tells input (answers.InvalidEntry number) = IsInvalidEntry input number
Tells input answers.InvalidEnd = IsInvalidEnd input
Tells input (answers.TooLong line) = IsTooLong input line

-- the input isn't longer than is read, or the bytes that are read decide an invalid part
abbrev pub IsDecided : List ℕ → Type 0
IsDecided input = (line : ℕ) → IsTooLong input line → ⊥

-- an answer comes for an input that is decided, but for the one that it is too long
abbrev pub Comes : List ℕ → Checked → Type 0
Comes input (answers.TooLong line) = Unit {0}
Comes input answer = IsDecided input

-- this is the answer of the input
abbrev pub IsChecked : List ℕ → Checked → Type 0
IsChecked input answer = Tells input answer × Comes input answer

-- the line that tells the answer; that of an input that is too long is a fault's, and none of these
abbrev pub checked_text : Checked → List ℕ
checked_text (answers.Valid count) = codes "valid " ++ decimal count ++ codes "\n"
checked_text answers.InvalidHeader = codes "invalid header\n"
checked_text (answers.InvalidEntry number) = codes "invalid entry " ++ decimal number ++ codes "\n"
checked_text answers.InvalidEnd = codes "invalid end\n"
checked_text (answers.TooLong line) = []
