-- The first line of a text that can't stand in share texts one after the other, and the number of its fault.
use Rattle.std.specs.Prelude.{◌≡◌, ◌≢◌, ◌⊎◌, ℕ, ◌+◌, ◌<◌, ◌≤◌, List, [], ◌∷◌, ◌++◌, length, Some, Err}
use Rattle.std.specs.List.{AllByRecursion}
use Rattle.heesch_cert.specs.declared.header.Header.{Header}
use Rattle.heesch_cert.specs.declared.entry.Entry.{Entry}
use Rattle.heesch_line.specs.Forms.{HasNoNewline}
use Rattle.heesch_parts.specs.declared.part_line.PartLine.{PartLine}
use Rattle.heesch_parts.specs.declared.stage.Stage.{Stage}
use Rattle.heesch_parts.specs.PartLines.{IsPartLine, part_words, parts_text}
use Rattle.heesch_parts.specs.Stages.{start, Step, Walk, end_fault}
use Rattle.heesch_parts.specs.Shares.{AreShares}

-- no line of a share text has these words
abbrev pub IsNoPartLine : List ℕ → Type 0
IsNoPartLine words = (line : PartLine) → IsPartLine line → part_words line ≢ words

-- the line with these words is a line of a share text
pub record HasLine (words : List ℕ) (s : Stage) (number : ℕ) : Type 0 where
  pub line : PartLine
  pub form : IsPartLine line
  pub words_are : part_words line ≡ words
  pub fault : Step s line (Err number)

-- the line with these words has this fault behind those before it: that of its step where it is a line of a share text, and else 6
abbrev pub IsLineFault : List ℕ → Stage → ℕ → Type 0
IsLineFault words s number = HasLine words s number ⊎ (IsNoPartLine words × (number ≡ 6))

-- the line ends within the bytes that are read, and has the fault
pub record Ended (most : ℕ) (front rest : List ℕ) (s : Stage) (number : ℕ) : Type 0 where
  pub words : List ℕ
  pub back : List ℕ
  pub split : rest ≡ words ++ 10 ∷ back
  pub one_line : HasNoNewline words
  pub in_time : length front + length words < most
  pub fault : IsLineFault words s number

-- the fault of an end of input behind these bytes of a line: 6 where there are some, and else that of the lines before
abbrev pub EndFault : List ℕ → Stage → ℕ → Type 0
EndFault [] s number = end_fault s ≡ Some number
EndFault (b ∷ rest) s number = number ≡ 6

-- the text ends in the line, within the bytes that are read, and may not end there
pub record AtEnd (most : ℕ) (front rest : List ℕ) (s : Stage) (number : ℕ) : Type 0 where
  pub one_line : HasNoNewline rest
  pub in_time : length front + length rest ≤ most
  pub fault : EndFault rest s number

-- the text goes on in the line beyond the bytes that are read
pub record Beyond (most : ℕ) (front rest : List ℕ) (number : ℕ) : Type 0 where
  pub line : List ℕ
  pub byte : ℕ
  pub back : List ℕ
  pub split : rest ≡ line ++ byte ∷ back
  pub one_line : HasNoNewline line
  pub all_read : length front + length line ≡ most
  pub number_is : number ≡ 8

-- behind these bytes, which are whole lines, the line has this fault
abbrev pub IsFaultBehind : (most : ℕ) (front rest : List ℕ) → Stage → ℕ → Type 0
IsFaultBehind most front rest s number = Ended most front rest s number ⊎ AtEnd most front rest s number ⊎ Beyond most front rest number

-- The first line at fault, from 1, and the number of its fault: the lines before it may stand, and end within the bytes that are read.
pub record HasFault (most : ℕ) (text : List ℕ) (line number : ℕ) : Type 0 where
  pub front : List PartLine
  pub rest : List ℕ
  pub stage : Stage
  pub split : text ≡ parts_text front ++ rest
  pub forms : AllByRecursion IsPartLine front
  pub walk : Walk start front stage
  pub in_time : length (parts_text front) ≤ most
  pub fault : IsFaultBehind most (parts_text front) rest stage number
  pub line_is : line ≡ length front + 1

-- ---- statements

-- the text of K shares has no fault where all of it is read
abbrev pub SharesHaveNoFault : Type 0
SharesHaveNoFault = (most : ℕ) (text : List ℕ) (header : Header) (shares : List (List Entry)) (line number : ℕ) → AreShares text header shares → length text ≤ most → HasFault most text line number → ⊥

-- a text has one first fault at most
abbrev pub OneFault : Type 0
OneFault = (most : ℕ) (text : List ℕ) (line number at other : ℕ) → HasFault most text line number → HasFault most text at other → (line ≡ at) × (number ≡ other)
